-- A rule of a table holds at every entry where one test, computed over the whole table, passes: the test goes entry by entry.
use Prim.Native.Nat.{ℕ, zero, suc, ◌+◌, ◌<◌}
use mathlib.Core.Path.{subst, sym, ◌∙◌}
use mathlib.Core.Bool.{Bool, true, false, ◌&&◌}
use mathlib.Core.List.{List, [], ◌∷◌}
use native.Mathlib.Nat.{add-zero, zero-add, add-suc, suc-add, le_of_suc-le-suc, not-suc-le-zero}
use lib.Dec.{T}
use lib.ListN.{length, get_or}

left_holds : (a b : Bool) → T (a && b) → T a
left_holds true b t = tt
left_holds false b t = t

right_holds : (a b : Bool) → T (a && b) → T b
right_holds true b t = t
right_holds false b t = absurd t

module _ {A : Type 0} where
  -- the test passes at each entry and its place, counted from `first`
  abbrev pub every_from : (ℕ → A → Bool) → ℕ → List A → Bool
  every_from test first [] = true
  every_from test first (x ∷ xs) = test first x && every_from test (suc first) xs

  abbrev pub every : (ℕ → A → Bool) → List A → Bool
  every test table = every_from test 0 table

  from : (test : ℕ → A → Bool) (d : A) (xs : List A) (first : ℕ) → T (every_from test first xs) → (k : ℕ) → k < length xs → T (test (first + k) (get_or xs k d))
  from test d [] first t k h = absurd (not-suc-le-zero h)
  from test d (x ∷ xs) first t zero h =
      subst (λ (m : ℕ). T (test m x)) (sym (add-zero first)) (left_holds (test first x) (every_from test (suc first) xs) t)
  from test d (x ∷ xs) first t (suc k) h =
      subst (λ (m : ℕ). T (test m (get_or xs k d))) (suc-add first k ∙ sym (add-suc first k))
      (from test d xs (suc first) (right_holds (test first x) (every_from test (suc first) xs) t) k (le_of_suc-le-suc h))

  pub at_entry : (test : ℕ → A → Bool) (d : A) (table : List A) → T (every test table) → (k : ℕ) → k < length table → T (test k (get_or table k d))
  at_entry test d table t k h = subst (λ (m : ℕ). T (test m (get_or table k d))) (zero-add k) (from test d table 0 t k h)
