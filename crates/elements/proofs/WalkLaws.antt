-- The strings of a right message, met one at a time by a walk along it: the rule makes them from each place at which the walk stands.
use Prim.Native.Nat.{ℕ, zero, suc}
use mathlib.Core.Path.{◌≡◌, refl, sym, ap, ◌∙◌, subst}
use mathlib.Core.Bool.{Bool, true, false, cond, not}
use mathlib.Core.List.{List, [], ◌∷◌, ◌++◌}
use native.Mathlib.Omega.{arith}
use lib.ListN.{length}
use borrow.Author.Tests.{eq-eqb, ne_eqb, not-true}
use Rattle.laws.specs.Among.{among}
use Rattle.refusal.specs.declared.Refusal.{Refusal}
use Rattle.refusal.specs.declared.Refusal.TheVariants.{Repeated}
use Rattle.refusal.specs.Outcome.{made, refused}
use Rattle.refusal.proofs.OutcomeLaws.{must_made, bind_made, made_same}
use Rattle.elements.specs.declared.Element.{Element}
use Rattle.elements.specs.Strings.{string_at, strings_from, parsed}
use Rattle.elements.specs.Found.{sought}

-- the rule makes these strings from a place on, after those whose identifiers are used
pub record From (message : List ℕ) (place : ℕ) (used : List ℕ) (strings : List Element) : Type 0 where
  pub turns : ℕ
  pub rule : strings_from turns message place used ≡ made strings

-- the first of them, and the others
pub record First (message : List ℕ) (place : ℕ) (used : List ℕ) (strings : List Element) : Type 0 where
  pub string : Element
  pub more : List Element
  pub here : string_at message place ≡ made string
  pub new : among used string.identifier ≡ false
  pub split : strings ≡ string ∷ more
  pub ends : string.last ≡ true → more ≡ []
  pub goes : string.last ≡ false → From message string.next (used ++ (string.identifier ∷ [])) more

pub first_of : (message : List ℕ) (place : ℕ) {used : List ℕ} (strings : List Element) → From message place used strings → First message place used strings
unfolding strings_from
first_of message place {used} strings f = go f.turns f.rule
  where
    either : (k : ℕ) (names : List ℕ) (string : Element) (more : List Element) (l : Bool) → cond l (made []) (strings_from k message string.next names) ≡ made more → (l ≡ true → more ≡ []) × (l ≡ false → From message string.next names more)
    either k names string more true e = (λ _. cc, λ n. absurd (let z : ◌≡◌ {A = ℕ} 0 1 = cc in omega arith))
    either k names string more false e = (λ n. absurd (let z : ◌≡◌ {A = ℕ} 0 1 = cc in omega arith), λ _. record { turns = k; rule = e })

    go : (k : ℕ) → strings_from k message place used ≡ made strings → First message place used strings
    go zero e = absurd (let z : ◌≡◌ {A = ℕ} 0 1 = cc in omega arith)
    go (suc k) e =
        let a = bind_made (string_at message place) _ strings e in
        let string = a.0 in
        let m = must_made (not (among used string.identifier)) (Repeated place) _ strings a.2 in
        let b = bind_made (cond string.last (made []) (strings_from k message string.next (used ++ (string.identifier ∷ [])))) _ strings m.1 in
        let last = either k (used ++ (string.identifier ∷ [])) string b.0 string.last b.1 in
        record { string = string; more = b.0; here = a.1; new = not-true _ m.0; split = sym (made_same _ _ b.2); ends = last.0; goes = last.1 }

pub from_start : (message : List ℕ) (strings : List Element) → parsed message ≡ made strings → From message 0 [] strings
unfolding parsed
from_start message strings e = record { turns = suc (length message); rule = e }

-- the string sought is the first, the last, or among the others
module _ (x : ℕ) (string : Element) where
  sought_last : sought x (string ∷ []) ≡ made string
  unfolding sought
  sought_last = refl

  sought_here : (more : List Element) → string.identifier ≡ x → sought x (string ∷ more) ≡ made string
  unfolding sought
  sought_here [] e = refl
  sought_here (next ∷ more) e = rw (eq-eqb string.identifier x e)

  sought_later : (next : Element) (more : List Element) → (string.identifier ≡ x → ⊥) → sought x (string ∷ next ∷ more) ≡ sought x (next ∷ more)
  unfolding sought
  sought_later next more e = rw (ne_eqb string.identifier x e)

-- where a walk stands that looks for a string: it is the one sought among the strings left
pub record Left (message : List ℕ) (x : ℕ) (place : ℕ) (strings : List Element) : Type 0 where
  pub used : List ℕ
  pub rest : List Element
  pub from : From message place used rest
  pub same : sought x strings ≡ sought x rest

module _ (message : List ℕ) (x : ℕ) (place : ℕ) (strings : List Element) (left : Left message x place strings) where
  abbrev first : First message place left.used left.rest
  first = first_of message place left.rest left.from

  same_first : sought x strings ≡ sought x (first.string ∷ first.more)
  same_first = left.same ∙ ap (sought x) first.split

  pub never_refused : (f : Refusal) → string_at message place ≡ refused f → ⊥
  never_refused f e = let h = first.here in let z : ◌≡◌ {A = ℕ} 0 1 = cc in omega arith

  module _ (string : Element) (here : string_at message place ≡ made string) where
    is_first : first.string ≡ string
    is_first = made_same _ _ (sym first.here ∙ here)

    pub left_here : string.identifier ≡ x → sought x strings ≡ made string
    left_here e = same_first ∙ rw is_first (sought_here x string first.more e)

    pub left_last : string.last ≡ true → sought x strings ≡ made string
    left_last e = same_first ∙ ap (λ (more : List Element). sought x (first.string ∷ more)) (first.ends (rw is_first e)) ∙ rw is_first (sought_last x string)

    pub left_more : (string.identifier ≡ x → ⊥) → string.last ≡ false → Left message x string.next strings
    left_more other e =
        let from = subst (λ (s : Element). From message s.next (left.used ++ (s.identifier ∷ [])) first.more) is_first (first.goes (rw is_first e)) in
        let next = first_of message string.next first.more from in
        let split : sought x (string ∷ first.more) ≡ sought x first.more = rw next.split (sought_later x string next.string next.more other) in
        record { used = left.used ++ (string.identifier ∷ []); rest = first.more; from = from; same = same_first ∙ rw is_first split }
