-- The string of an identifier is the one that a walk along the message stops at, if that has the identifier; and it stands at a place of the
-- message, within it and not empty.
use Prim.Native.Nat.{ℕ, zero, suc, ◌+◌, ◌≤◌}
use mathlib.Core.Path.{◌≡◌, refl, sym, ap, ◌∙◌, subst}
use mathlib.Core.Bool.{Bool, true, false, cond}
use mathlib.Core.List.{List, [], ◌∷◌}
use native.Mathlib.Omega.{arith}
use lib.ListN.{length, drop, length-drop}
use lib.Dec.{eqb, leb}
use borrow.Author.Tests.{eq-eqb, ne_eqb, eqb-true, eqb-false, leb-true}
use Rattle.refusal.specs.declared.Refusal.{Refusal}
use Rattle.refusal.specs.declared.Refusal.TheVariants.{Absent}
use Rattle.refusal.specs.Outcome.{Outcome, made, refused, ◌>>=◌, ◌>>◌, must}
use Rattle.refusal.proofs.OutcomeLaws.{made_not_refused, bind_made, made_same}
use Rattle.elements.specs.declared.Element.{Element}
use Rattle.identifiers.specs.declared.Kind.{Kind}
use Rattle.identifiers.specs.Identifiers.{table, kind_of, spelled}
use Rattle.elements.specs.Strings.{data_of, element_of, string_at, tested}
use Rattle.elements.specs.Found.{sought}
use Rattle.asking.specs.Asking.{named, asked}
use Rattle.identifiers.proofs.ListedLaws.{all_rows, kind_passes}
use Rattle.elements.proofs.StringLaws.{data_within, data_least, begin_within, FoundAt, string_found, next_within}
use Rattle.elements.proofs.WalkLaws.{From, First, first_of, from_start}
use Rattle.elements.proofs.FromRule.{tested_made}

-- the string sought is the first, or among the others
module _ (x : ℕ) (string : Element) (more : List Element) where
  pub named_here : string.identifier ≡ x → named x (string ∷ more) ≡ made string
  unfolding named
  named_here e = rw (eq-eqb string.identifier x e)

  pub named_later : (string.identifier ≡ x → ⊥) → named x (string ∷ more) ≡ named x more
  unfolding named
  named_later e = rw (ne_eqb string.identifier x e)

pub named_none : (x : ℕ) → named x [] ≡ refused Absent
unfolding named
named_none x = refl

-- it is the one that a walk stops at, if that has the identifier
abbrev pub checked : ℕ → Element → Outcome Element
checked x string = must (eqb string.identifier x) Absent >> made string

pub named_sought : (x : ℕ) (strings : List Element) → named x strings ≡ (sought x strings >>= checked x)
unfolding named sought
named_sought x [] = refl
named_sought x (string ∷ []) = go (eqb string.identifier x)
  where
    go : (b : Bool) → cond b (made string) (refused Absent) ≡ (must b Absent >> made string)
    go true = refl
    go false = refl
named_sought x (string ∷ next ∷ more) = go (eqb string.identifier x) refl (named_sought x (next ∷ more))
  where
    go : (b : Bool) → eqb string.identifier x ≡ b → named x (next ∷ more) ≡ (sought x (next ∷ more) >>= checked x) → cond b (made string) (named x (next ∷ more)) ≡ (cond b (made string) (sought x (next ∷ more)) >>= checked x)
    go true p later = rw p
    go false p later = later

-- asking, once the message is tested
module _ (message : List ℕ) (x : ℕ) where
  pub asked_refused : (f : Refusal) → tested message ≡ refused f → asked message x ≡ refused f
  unfolding asked
  asked_refused f e = rw e

  pub asked_named : (strings : List Element) → tested message ≡ made strings → asked message x ≡ named x strings
  unfolding asked
  asked_named strings e = rw e

  pub asked_sought : (strings : List Element) → tested message ≡ made strings → asked message x ≡ (sought x strings >>= checked x)
  asked_sought strings e = asked_named strings e ∙ named_sought x strings

-- a string that was found stands at a place of the message
pub record Stands (message : List ℕ) (string : Element) : Type 0 where
  pub place : ℕ
  pub within : place ≤ length message
  pub here : string_at message place ≡ made string

stands : (k : ℕ) (message : List ℕ) (place : ℕ) {used : List ℕ} (strings : List Element) (from : From message place used strings) → length strings ≤ k → place ≤ length message → (x : ℕ) (string : Element) → named x strings ≡ made string → Stands message string
stands zero message place strings from h within x string e =
    let f = first_of message place strings from in
    absurd (omega (arith, ap length f.split))
stands (suc k) message place {used} strings from h within x string e =
    let f = first_of message place strings from in
    go f (eqb f.string.identifier x) refl f.string.last refl
    (λ q. stands k message f.string.next f.more (f.goes q) (omega (arith, ap length f.split)) (next_within message place f.string within f.here q).0 x string)
  where
    go : (f : First message place used strings) (b : Bool) → eqb f.string.identifier x ≡ b → (l : Bool) → f.string.last ≡ l → (f.string.last ≡ false → named x f.more ≡ made string → Stands message string) → Stands message string
    go f true p l q later =
        let is : f.string ≡ string = made_same _ _ (sym (named_here x f.string f.more (eqb-true _ _ p)) ∙ ap (named x) (sym f.split) ∙ e) in
        record { place = place; within = within; here = f.here ∙ ap made is }
    go f false p true q later =
        absurd (made_not_refused string Absent (sym e ∙ ap (named x) f.split ∙ named_later x f.string f.more (eqb-false _ _ p) ∙ ap (named x) (f.ends q) ∙ named_none x))
    go f false p false q later = later q (sym (named_later x f.string f.more (eqb-false _ _ p)) ∙ ap (named x) (sym f.split) ∙ e)

pub asked_stands : (message : List ℕ) (x : ℕ) (string : Element) → asked message x ≡ made string → Stands message string
unfolding asked
asked_stands message x string e =
    let a = bind_made (tested message) _ string e in
    let strings = (tested_made message a.0 a.1).strings in
    stands (length a.0) message 0 a.0 (from_start message a.0 strings) (omega arith) (omega arith) x string a.2

-- right data is never empty
some : Kind → Bool
some kind = leb 1 kind.least

all_some : all_rows some table ≡ true
unfolding some table
all_some = refl

module _ (message : List ℕ) (string : Element) (s : Stands message string) where
  abbrev found : FoundAt message s.place string
  found = string_found message s.place string s.here

  abbrev begin : ℕ
  begin = s.place + length (spelled string.identifier)

  pub part_within : string.begin + string.length ≤ length message
  unfolding element_of
  part_within =
      let inside = begin_within message s.place string.identifier found.kind found.here found.listed s.within in
      let own = data_within found.kind (drop begin message) in
      subst (λ (t : Element). t.begin + t.length ≤ length message) (sym found.made_of) (omega (arith, length-drop begin message))

  pub part_some : 1 ≤ string.length
  unfolding element_of some kind_of
  part_some =
      let least = data_least found.kind (data_of found.kind (drop begin message)) found.right in
      let one = leb-true 1 found.kind.least (kind_passes some table all_some string.identifier found.kind found.listed) in
      subst (λ (t : Element). 1 ≤ t.length) (sym found.made_of) (omega arith)
