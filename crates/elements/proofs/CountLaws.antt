-- A message, an element string at a time, as a loop that counts them meets it: the strings passed, and the rule from where it stands.
use Rattle.std.specs.Prelude.{Result, Ok, Err}
use Prim.Native.Nat.{ℕ, suc, ◌+◌, ◌≤◌}
use mathlib.Core.Path.{◌≡◌, refl, sym, ap, ◌∙◌}
use mathlib.Core.Bool.{Bool, true, false, cond}
use mathlib.Core.List.{List, [], ◌∷◌, ◌++◌}
use native.Mathlib.Nat.{zero-add}
use native.Mathlib.Omega.{arith}
use lib.ListN.{length}
use Rattle.refusal.specs.declared.Refusal.{Refusal}
use Rattle.refusal.specs.declared.Refusal.TheVariants.{Repeated}
use Rattle.refusal.specs.Outcome.{Outcome, made, refused, ◌>>=◌}
use Rattle.refusal.specs.Fills.{answer_of, answered}
use Rattle.refusal.proofs.FillsLaws.{made_of_answered}
use Rattle.elements.specs.declared.Element.{Element}
use Rattle.laws.specs.Among.{among}
use Rattle.elements.specs.Strings.{string_at, strings_from}
use Rattle.elements.proofs.StringLaws.{next_within}

-- the answer where so many strings have been passed
abbrev pub counted : ℕ → Outcome (List Element) → Result ℕ Refusal
counted n (made strings) = Ok (n + length strings)
counted n (refused f) = Err f

pub counted_none : (o : Outcome (List Element)) → answer_of o ≡ counted 0 o
counted_none (made strings) = ap Ok (sym (zero-add (length strings)))
counted_none (refused f) = refl

counted_more : (n : ℕ) (string : Element) (o : Outcome (List Element)) → counted n (o >>= (λ (rest : List Element). made (string ∷ rest))) ≡ counted (n + 1) o
counted_more n string (made strings) = ap Ok (omega arith)
counted_more n string (refused f) = refl

-- a loop that stands at a string which another one follows has a next place, four bytes on or more
pub found_next : (message : List ℕ) (at : ℕ) (string : Element) → at ≤ length message → Ok string ≡ answered (string_at message at) → string.last ≡ false → (string.next ≤ length message) × (at + 4 ≤ string.next)
found_next message at string within e goes = next_within message at string within (made_of_answered (string_at message at) string e) goes

module _ (k : ℕ) (message : List ℕ) (place : ℕ) (used : List ℕ) where
  pub from_refused : (f : Refusal) → string_at message place ≡ refused f → strings_from (suc k) message place used ≡ refused f
  unfolding strings_from
  from_refused f e = rw e

  module _ (string : Element) (here : string_at message place ≡ made string) where
    pub from_repeated : among used string.identifier ≡ true → strings_from (suc k) message place used ≡ refused (Repeated place)
    unfolding strings_from
    from_repeated e = rw (here, e)

    pub from_last : among used string.identifier ≡ false → string.last ≡ true → strings_from (suc k) message place used ≡ made (string ∷ [])
    unfolding strings_from
    from_last e is = rw (here, e, is)

    pub from_more : among used string.identifier ≡ false → string.last ≡ false → (n : ℕ) → counted n (strings_from (suc k) message place used) ≡ counted (n + 1) (strings_from k message string.next (used ++ (string.identifier ∷ [])))
    unfolding strings_from
    from_more e is n =
        let more = strings_from k message string.next (used ++ (string.identifier ∷ [])) in
        rw (here, e)
        (ap (λ (last : Bool). counted n (cond last (made []) more >>= (λ (rest : List Element). made (string ∷ rest)))) is ∙ counted_more n string more)

    pub from_made : among used string.identifier ≡ false → string.last ≡ false → (rest : List Element) → strings_from k message string.next (used ++ (string.identifier ∷ [])) ≡ made rest → strings_from (suc k) message place used ≡ made (string ∷ rest)
    unfolding strings_from
    from_made e is rest later =
        let more = strings_from k message string.next (used ++ (string.identifier ∷ [])) in
        rw (here, e)
        (ap (λ (last : Bool). cond last (made []) more >>= (λ (rest : List Element). made (string ∷ rest))) is
        ∙ ap (λ (o : Outcome (List Element)). o >>= (λ (rest : List Element). made (string ∷ rest))) later)
