-- Elements that are all below a bound are so in every part of the list, in lists that are joined, and after a store of one that is below it.
use Prim.Native.Nat.{ℕ, zero, suc, ◌+◌, ◌≤◌, ◌<◌, min, suc-le-suc}
use mathlib.Core.Path.{◌≡◌}
use mathlib.Core.List.{List, [], ◌∷◌, ◌++◌}
use native.Mathlib.Nat.{le_of_suc-le-suc, not-suc-le-zero}
use native.Mathlib.Decide.{dec_lt, ℕ_discrete}
use native.Mathlib.Omega.{arith}
use lib.ListN.{length, get_or, set, take, drop, length-take, length-drop, length-set, get_or-eq_default}
use lib.Seq.{get_or-take, get_or-drop, get_or-set_same, get_or-set_other}
use Rattle.laws.specs.Below.{Below}
use Rattle.laws.specs.Each.{Each}
use Rattle.laws.specs.Exchanged.{exchanged}
use Rattle.laws.proofs.ExchangedLaws.{exchanged_sets}

module _ (bound : ℕ) where
  pub below_of_nil : Below bound []
  below_of_nil i h = absurd (not-suc-le-zero h)

  pub below_more : (x : ℕ) (xs : List ℕ) → x < bound → Below bound xs → Below bound (x ∷ xs)
  below_more x xs first rest zero h = first
  below_more x xs first rest (suc i) h = rest i (le_of_suc-le-suc h)

  pub below_first : (x : ℕ) (xs : List ℕ) → Below bound (x ∷ xs) → x < bound
  below_first x xs below = below 0 (omega arith)

  pub below_rest : (x : ℕ) (xs : List ℕ) → Below bound (x ∷ xs) → Below bound xs
  below_rest x xs below i h = below (suc i) (suc-le-suc h)

  pub below_each : (xs : List ℕ) → Each (λ (x : ℕ). x < bound) xs → Below bound xs
  below_each [] each = below_of_nil
  below_each (x ∷ xs) each = below_more x xs each.0 (below_each xs each.1)

  -- beyond the last element stands 0
  pub below_anywhere : (xs : List ℕ) → 0 < bound → Below bound xs → (i : ℕ) → get_or xs i 0 < bound
  below_anywhere xs some below i = go (dec_lt i (length xs))
    where
      go : Dec (i < length xs) → get_or xs i 0 < bound
      go (yes within) = below i within
      go (no beyond) = rw (get_or-eq_default xs 0 {n = i} (omega arith)) some

  pub below_take : (n : ℕ) (xs : List ℕ) → Below bound xs → Below bound (take n xs)
  below_take n xs below i h =
      let within : i < min n (length xs) = rw (length-take n xs) at h in
      rw (get_or-take n xs i 0 (omega arith)) (below i (omega arith))

  pub below_drop : (n : ℕ) (xs : List ℕ) → Below bound xs → Below bound (drop n xs)
  below_drop n xs below i h =
      let within = rw (length-drop n xs) at h in
      rw (get_or-drop n xs i 0) (below (n + i) (omega arith))

  pub below_append : (xs ys : List ℕ) → Below bound xs → Below bound ys → Below bound (xs ++ ys)
  below_append [] ys front back = back
  below_append (x ∷ xs) ys front back = below_more x (xs ++ ys) (below_first x xs front) (below_append xs ys (below_rest x xs front) back)

  pub below_last : (xs : List ℕ) (x : ℕ) → Below bound xs → x < bound → Below bound (xs ++ (x ∷ []))
  below_last xs x below last = below_append xs (x ∷ []) below (below_more x [] last below_of_nil)

  pub below_set : (xs : List ℕ) (k x : ℕ) → Below bound xs → x < bound → Below bound (set xs k x)
  below_set xs k x below new j h = go (ℕ_discrete j k)
    where
      go : Dec (j ≡ k) → get_or (set xs k x) j 0 < bound
      go (yes is) = rw (is, get_or-set_same xs k x 0 (omega (arith, length-set xs k x))) new
      go (no other) = rw (get_or-set_other xs k j x 0 other) (below j (omega (arith, length-set xs k x)))

  pub below_exchanged : (k : ℕ) (xs : List ℕ) → suc k < length xs → Below bound xs → Below bound (exchanged k xs)
  below_exchanged k xs h below =
      rw (exchanged_sets k xs 0 h)
      (below_set (set xs k (get_or xs (suc k) 0)) (suc k) (get_or xs k 0) (below_set xs k (get_or xs (suc k) 0) below (below (suc k) h)) (below k (omega arith)))

-- below a bound, and so below a greater one
pub below_greater : (bound greater : ℕ) (xs : List ℕ) → bound ≤ greater → Below bound xs → Below greater xs
below_greater bound greater xs h below i l = omega (arith, below i l)
