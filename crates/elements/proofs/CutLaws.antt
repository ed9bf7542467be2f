-- A message, cut where its element strings end: the digits of the identifier, the data, what closes it, and the rest from where the next
-- string begins.
use Rattle.std.specs.Prelude.{Some}
use Prim.Native.Nat.{ℕ, ◌+◌, ◌-◌, ◌≤◌, ◌<◌}
use mathlib.Core.Path.{◌≡◌, refl, sym, ap, ap₂, ◌∙◌, subst}
use mathlib.Core.Bool.{Bool, true, false, cond, not}
use mathlib.Core.List.{List, [], ◌∷◌, ◌++◌}
use native.Mathlib.Numerals.{add-one}
use native.Mathlib.Omega.{arith}
use lib.ListN.{length, get_or, take, drop, take-append-drop, length-drop, drop_of_length-le}
use lib.Seq.{drop-cons, drop-drop, get_or-drop}
use lib.Dec.{eqb}
use borrow.Author.Tests.{eqb-true, eqb-false, not-false}
use Rattle.laws.specs.First.{first_not}
use Rattle.laws.proofs.FirstLaws.{first_fails}
use Rattle.elements.specs.declared.Element.{Element}
use Rattle.identifiers.specs.declared.Kind.{Kind}
use Rattle.character_set_82.specs.Characters.{separator, to_separator}
use Rattle.identifiers.specs.Identifiers.{kind_of, spelled}
use Rattle.identifiers.specs.Data.{right_data}
use Rattle.elements.specs.Strings.{data_of, next_after, element_of}
use Rattle.elements.specs.Messages.{Right, closing, string_of}
use Rattle.identifiers.proofs.ListedLaws.{listed_found}
use Rattle.elements.proofs.StringLaws.{data_part, data_within, data_to_separator, FoundAt, begin_within}

pub closing_is : (x : ℕ) (kind : Kind) → kind_of x ≡ Some kind → closing x ≡ cond kind.predefined [] (separator ∷ [])
unfolding closing
closing_is x kind e = rw e

separator_there : (bytes : List ℕ) (n : ℕ) → to_separator bytes ≡ n → n < length bytes → get_or bytes n 0 ≡ separator
unfolding to_separator
separator_there bytes n is h =
    let before : first_not (λ (b : ℕ). not (eqb b separator)) bytes < length bytes = omega arith in
    subst (λ (m : ℕ). get_or bytes m 0 ≡ separator) is (eqb-true _ separator (not-false _ (first_fails (λ (b : ℕ). not (eqb b separator)) bytes 0 before)))

-- data of variable length that doesn't end the message ends at a separator
ends_closed : (message : List ℕ) (kind : Kind) (b n : ℕ) → n ≡ length (data_of kind (drop b message)) → b ≤ length message → (b + n ≡ length message → ⊥) → drop (b + n) message ≡ cond kind.predefined [] (separator ∷ []) ++ drop (next_after kind (b + n)) message
unfolding next_after
ends_closed message kind b n is within ends = go kind.predefined refl
  where
    go : (p : Bool) → kind.predefined ≡ p → drop (b + n) message ≡ cond p [] (separator ∷ []) ++ drop (cond p (b + n) (b + n + 1)) message
    go true e = refl
    go false e =
        let rest = drop b message in
        let size : length rest ≡ length message - b = length-drop b message in
        let most = data_within kind rest in
        let place : to_separator rest ≡ n = sym (is ∙ data_to_separator kind rest e) in
        let inside : b + n < length message = omega arith in
        let byte : get_or message (b + n) 0 ≡ separator = sym (get_or-drop b message n 0) ∙ separator_there rest n place (omega arith) in
        rw (add-one, drop-cons message (b + n) 0 inside, byte)

module _ (message : List ℕ) (at : ℕ) (string : Element) (f : FoundAt message at string) where
  abbrev x : ℕ
  x = string.identifier

  abbrev begin : ℕ
  begin = at + length (spelled x)

  abbrev bytes : List ℕ
  bytes = data_of f.kind (drop begin message)

  abbrev count : ℕ
  count = length bytes

  pub content_is : (string_of message string).content ≡ bytes
  unfolding element_of
  content_is =
      ap (λ (s : Element). take s.length (drop s.begin message)) f.made_of ∙ data_part f.kind (drop begin message)

  pub right_string : Right (string_of message string)
  right_string = record { kind = f.kind; listed = f.listed; right = ap (right_data f.kind) content_is ∙ f.right }

  pub begins : drop at message ≡ spelled x ++ drop begin message
  begins = (listed_found (drop at message) x f.here).1 ∙ ap (λ (rest : List ℕ). spelled x ++ rest) (drop-drop (length (spelled x)) at message)

  pub goes_on : drop begin message ≡ bytes ++ drop (begin + count) message
  goes_on =
      sym (take-append-drop count (drop begin message))
      ∙ ap₂ (λ (front rest : List ℕ). front ++ rest) (data_part f.kind (drop begin message)) (drop-drop count begin message)

  pub at_last : string.last ≡ true → drop (begin + count) message ≡ []
  unfolding element_of
  at_last is =
      let ends : begin + count ≡ length message = eqb-true _ _ (sym (ap (λ (s : Element). s.last) f.made_of) ∙ is) in
      drop_of_length-le message {i = begin + count} (omega arith)

  pub closes : at ≤ length message → string.last ≡ false → drop (begin + count) message ≡ closing x ++ drop string.next message
  unfolding element_of
  closes within goes =
      let ends : begin + count ≡ length message → ⊥ = eqb-false _ _ (sym (ap (λ (s : Element). s.last) f.made_of) ∙ goes) in
      ends_closed message f.kind begin count refl (begin_within message at x f.kind f.here f.listed within) ends
      ∙ ap₂ (λ (front : List ℕ) (next : ℕ). front ++ drop next message) (sym (closing_is x f.kind f.listed)) (sym (ap (λ (s : Element). s.next) f.made_of))
