-- The test of a message gives refusals 1, 2, 9, 10 and 11 and no other: each line of its rule gives its own. So where a rule begins with
-- lines that give only these, an outcome of another kind says that they passed.
use Rattle.std.specs.Prelude.{Option, Some, None}
use Prim.Native.Nat.{ℕ, zero, suc, ◌+◌}
use mathlib.Core.Path.{◌≡◌, refl}
use mathlib.Core.Bool.{Bool, true, false, cond, not, ◌&&◌}
use mathlib.Core.List.{List, [], ◌∷◌, ◌++◌}
use native.Mathlib.Omega.{arith}
use lib.ListN.{length, drop}
use lib.Dec.{eqb, leb}
use Rattle.laws.specs.First.{first_not}
use Rattle.laws.specs.Among.{place_in, among}
use Rattle.refusal.specs.declared.Refusal.{Refusal}
use Rattle.refusal.specs.declared.Refusal.TheVariants.{Count, Character, Identifier, Data, Repeated, Room}
use Rattle.refusal.specs.Numbers.{number_of}
use Rattle.refusal.specs.Outcome.{Outcome, made, refused, ◌>>=◌, ◌>>◌, must}
use Rattle.character_set_82.specs.Characters.{is_message_byte}
use Rattle.identifiers.specs.Identifiers.{kind_of, spelled, identifier_in}
use Rattle.identifiers.specs.Data.{right_data}
use Rattle.elements.specs.Strings.{given, data_of, string_at, strings_from, parsed, tested}

-- the numbers of the refusals of a message
abbrev pub of_message : List ℕ
of_message = 1 ∷ 2 ∷ 9 ∷ 10 ∷ 11 ∷ []

module _ (numbers : List ℕ) where
  -- a rule gives no other refusals than these, or none of them
  abbrev pub Only : {A : Type 0} → Outcome A → Type 0
  Only o = (f : Refusal) → o ≡ refused f → among numbers (number_of f) ≡ true

  abbrev pub Others : {A : Type 0} → Outcome A → Type 0
  Others o = (f : Refusal) → o ≡ refused f → among numbers (number_of f) ≡ false

  module _ {A : Type 0} where
    pub only_made : (a : A) → Only (made a)
    only_made a f e = absurd (let z : ◌≡◌ {A = ℕ} 0 1 = cc in omega arith)

    pub others_made : (a : A) → Others (made a)
    others_made a f e = absurd (let z : ◌≡◌ {A = ℕ} 0 1 = cc in omega arith)

    only_refused : (g : Refusal) → among numbers (number_of g) ≡ true → Only {A = A} (refused g)
    only_refused g own f e = let is : g ≡ f = cc in rw is at own

    pub others_refused : (g : Refusal) → among numbers (number_of g) ≡ false → Others {A = A} (refused g)
    others_refused g other f e = let is : g ≡ f = cc in rw is at other

    pub only_must : (test : Bool) (g : Refusal) (rest : Outcome A) → among numbers (number_of g) ≡ true → Only rest → Only (must test g >> rest)
    only_must true g rest own later = later
    only_must false g rest own later = only_refused g own

    pub only_given : (o : Option A) (g : Refusal) → among numbers (number_of g) ≡ true → Only (given o g)
    only_given (Some a) g own = only_made a
    only_given None g own = only_refused g own

    only_cond : (b : Bool) (o p : Outcome A) → Only o → Only p → Only (cond b o p)
    only_cond true o p first second = first
    only_cond false o p first second = second

    -- a line that gives only these has passed where the rule came to none of them
    pub must_passed : (test : Bool) (g : Refusal) (rest p : Outcome A) → among numbers (number_of g) ≡ true → Others p → (must test g >> rest) ≡ p → (test ≡ true) × (rest ≡ p)
    must_passed true g rest p own others e = (refl, e)
    must_passed false g rest p own others e = absurd (let other = others g (cc) in let z : ◌≡◌ {A = ℕ} 0 1 = cc in omega arith)

  only_bind : {A B : Type 0} (o : Outcome A) (rest : A → Outcome B) → Only o → ((a : A) → Only (rest a)) → Only (o >>= rest)
  only_bind (made a) rest first later = later a
  only_bind (refused g) rest first later = only_refused g (first g refl)

  pub bind_passed : {A B : Type 0} (o : Outcome A) (rest : A → Outcome B) (p : Outcome B) → Only o → Others p → (o >>= rest) ≡ p → (x : A) × (o ≡ made x) × (rest x ≡ p)
  bind_passed (made x) rest p only others e = (x, refl, e)
  bind_passed (refused f) rest p only others e = absurd (let own = only f refl in let other = others f (cc) in let z : ◌≡◌ {A = ℕ} 0 1 = cc in omega arith)

only_string : (message : List ℕ) (place : ℕ) → Only of_message (string_at message place)
unfolding string_at place_in first_not
only_string message place =
    only_bind of_message (given (identifier_in (drop place message)) (Identifier place)) _ (only_given of_message (identifier_in (drop place message)) (Identifier place) refl)
    (λ x. only_bind of_message (given (kind_of x) (Identifier place)) _ (only_given of_message (kind_of x) (Identifier place) refl)
    (λ kind. only_must of_message (right_data kind (data_of kind (drop (place + length (spelled x)) message))) (Data place) _ refl (only_made of_message _)))

only_strings : (k : ℕ) (message : List ℕ) (place : ℕ) (used : List ℕ) → Only of_message (strings_from k message place used)
unfolding strings_from place_in first_not
only_strings zero message place used = only_refused of_message (Identifier place) refl
only_strings (suc k) message place used =
    only_bind of_message (string_at message place) _ (only_string message place)
    (λ string. only_must of_message (not (among used string.identifier)) (Repeated place) _ refl
    (only_bind of_message (cond string.last (made []) (strings_from k message string.next (used ++ (string.identifier ∷ [])))) _
    (only_cond of_message string.last (made []) _ (only_made of_message []) (only_strings k message string.next (used ++ (string.identifier ∷ [])))) (λ rest. only_made of_message (string ∷ rest))))

pub only_tested : (message : List ℕ) → Only of_message (tested message)
unfolding tested parsed place_in first_not
only_tested message =
    only_must of_message (leb 1 (length message) && leb (length message) 48) Count _ refl
    (only_must of_message (eqb (first_not is_message_byte message) (length message)) (Character (first_not is_message_byte message)) _ refl (only_strings (suc (length message)) message 0 []))

-- Refusal 12 is never the test's own.
pub tested_has_room : (message : List ℕ) → tested message ≡ refused Room → ⊥
unfolding place_in first_not
tested_has_room message e = let own : false ≡ true = only_tested message Room e in let z : ◌≡◌ {A = ℕ} 0 1 = cc in omega arith
