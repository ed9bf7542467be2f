-- Whether a number is among others: one number at a time, and of a run by its ends.
use Rattle.std.specs.List.{list_any}
use Prim.Native.Nat.{ℕ, zero, suc, ◌+◌, ◌-◌, ◌≤◌, ◌<◌}
use mathlib.Core.Path.{◌≡◌, refl, sym, ap, ◌∙◌, subst}
use mathlib.Core.Bool.{Bool, true, false, cond, not, ◌&&◌, ◌||◌, or-true, or_assoc}
use mathlib.Core.List.{List, [], ◌∷◌, ◌++◌}
use mathlib.Core.Logic.{inl, inr, ⊎_elim}
use native.Mathlib.Nat.{add-zero, add-suc, suc-add, le_of_suc-le-suc, not-suc-le-zero}
use native.Mathlib.Omega.{arith}
use lib.ListN.{length, get_or}
use lib.Dec.{T, eqb, ltb, leb-suc-suc}
use borrow.Author.Tests.{lt-ltb, eq-eqb, ne_eqb, eqb-true}
use types.Run.{OneOf}
use Rattle.laws.specs.First.{first_not}
use Rattle.laws.proofs.Booleans.{both_hold, fails_unless}
use Rattle.laws.proofs.Tables.{every, at_entry}
use Rattle.laws.specs.Run.{run}
use Rattle.laws.specs.Among.{place_in, among}

pub among_of_nil : (x : ℕ) → among [] x ≡ false
unfolding place_in first_not
among_of_nil x = refl

pub among_more : (y : ℕ) (xs : List ℕ) (x : ℕ) → among (y ∷ xs) x ≡ (eqb y x || among xs x)
unfolding place_in first_not
among_more y xs x = go (eqb y x)
  where
    go : (b : Bool) → ltb (cond (not b) (suc (place_in xs x)) zero) (suc (length xs)) ≡ (b || among xs x)
    go true = lt-ltb zero (suc (length xs)) (omega arith)
    go false = leb-suc-suc (suc (place_in xs x)) (length xs)

-- what `contains` answers of a list of numbers
pub any_among : (xs : List ℕ) (x : ℕ) → list_any (λ (y : ℕ). eqb y x) xs ≡ among xs x
any_among [] x = sym (among_of_nil x)
any_among (y ∷ xs) x = rw (among_more y xs x, any_among xs x) refl

pub among_append : (xs ys : List ℕ) (x : ℕ) → among (xs ++ ys) x ≡ (among xs x || among ys x)
among_append [] ys x = rw among_of_nil
among_append (z ∷ xs) ys x = rw (among_more z (xs ++ ys) x, among_more z xs x, among_append xs ys x) (sym (or_assoc (eqb z x) (among xs x) (among ys x)))

-- one of the numbers of a list, as a choice
pub one_among : (ys : List ℕ) (x : ℕ) → OneOf ys x → among ys x ≡ true
one_among [] x one = absurd one
one_among (y ∷ []) x one = rw (among_more y [] x, eq-eqb y x (sym one))
one_among (y ∷ z ∷ ys) x one =
    among_more y (z ∷ ys) x
    ∙ ⊎_elim (λ (e : x ≡ y). rw (eq-eqb y x (sym e))) (λ (o : OneOf (z ∷ ys) x). rw (one_among (z ∷ ys) x o) (or-true (eqb y x))) one

pub not_among : (ys : List ℕ) (x : ℕ) → (OneOf ys x → ⊥) → among ys x ≡ false
not_among [] x none = among_of_nil x
not_among (y ∷ []) x none = rw (among_more y [] x, ne_eqb y x (λ e. none (sym e))) (among_of_nil x)
not_among (y ∷ z ∷ ys) x none = rw (among_more y (z ∷ ys) x, ne_eqb y x (λ e. none (inl (sym e)))) (not_among (z ∷ ys) x (λ o. none (inr o)))

pub run_at : (first count k : ℕ) → k < count → get_or (run first count) k 0 ≡ first + k
run_at first zero k h = absurd (not-suc-le-zero h)
run_at first (suc count) zero h = sym (add-zero first)
run_at first (suc count) (suc k) h = run_at (suc first) count k (le_of_suc-le-suc h) ∙ suc-add first k ∙ sym (add-suc first k)

pub length_run : (first count : ℕ) → length (run first count) ≡ count
length_run first zero = refl
length_run first (suc count) = ap suc (length_run (suc first) count)

abbrev pub agree : Bool → Bool → Bool
agree true b = b
agree false b = not b

pub agree_same : (a b : Bool) → T (agree a b) → b ≡ a
agree_same true true t = refl
agree_same true false t = absurd t
agree_same false true t = absurd t
agree_same false false t = refl

-- two tests that agree at every number of a run, computed
pub same_run : (f g : ℕ → Bool) (first count : ℕ) → T (every (λ (k x : ℕ). agree (f x) (g x)) (run first count)) → (x : ℕ) → first ≤ x → x < first + count → g x ≡ f x
same_run f g first count t x low high =
    let k = x - first in
    let here : first + k ≡ x = omega arith in
    let within : k < count = omega arith in
    agree_same (f x) (g x)
    (subst (λ (n : ℕ). T (agree (f n) (g n))) (run_at first count k within ∙ here)
    (at_entry (λ (_ n : ℕ). agree (f n) (g n)) 0 (run first count) t k (rw length_run within)))

-- one that gives the same value at all of them
pub in_run : (test : ℕ → Bool) (first count : ℕ) (value : Bool) → T (every (λ (k x : ℕ). agree value (test x)) (run first count)) → (x : ℕ) → first ≤ x → x < first + count → test x ≡ value
in_run test first count value t x low high = same_run (λ _. value) test first count t x low high

-- a test that every number of a list passes, computed, passes at a number that is among them
abbrev pub all : (ℕ → Bool) → List ℕ → Bool
all test [] = true
all test (x ∷ xs) = test x && all test xs

pub all_among : (test : ℕ → Bool) (xs : List ℕ) → all test xs ≡ true → (x : ℕ) → among xs x ≡ true → test x ≡ true
all_among test [] t x e = absurd (let no : among [] x ≡ false = among_of_nil x in let z : ◌≡◌ {A = ℕ} 0 1 = cc in omega arith)
all_among test (y ∷ ys) t x e = go (eqb y x) refl (rw (among_more y ys x) at e) (all_among test ys both.1 x)
  where
    both : (test y ≡ true) × (all test ys ≡ true)
    both = both_hold (test y) (all test ys) t

    go : (b : Bool) → eqb y x ≡ b → (b || among ys x) ≡ true → (among ys x ≡ true → test x ≡ true) → test x ≡ true
    go true p e later = rw (eqb-true y x p) at both.0
    go false p e later = later e

pub not_among_if : (test : ℕ → Bool) (xs : List ℕ) → all test xs ≡ true → (x : ℕ) → test x ≡ false → among xs x ≡ false
not_among_if test xs t x fails =
    fails_unless (among xs x) (λ e. let passes = all_among test xs t x e in let z : ◌≡◌ {A = ℕ} 0 1 = cc in omega arith)
