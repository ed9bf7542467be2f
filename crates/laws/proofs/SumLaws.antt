-- The sum of two lists, one after the other, is their sums' sum; and a store changes a sum by what it changes the element.
use Prim.Native.Nat.{ℕ, zero, suc, ◌+◌, ◌<◌}
use mathlib.Core.Path.{◌≡◌}
use mathlib.Core.List.{List, [], ◌∷◌, ◌++◌}
use native.Mathlib.Nat.{le_of_suc-le-suc, not-suc-le-zero}
use native.Mathlib.Omega.{arith}
use lib.ListN.{length, get_or, set}
use Rattle.laws.specs.Sum.{sum}

pub sum_of_append : (xs ys : List ℕ) → sum (xs ++ ys) ≡ sum xs + sum ys
unfolding sum
sum_of_append [] ys = omega arith
sum_of_append (x ∷ xs) ys = omega (arith, sum_of_append xs ys)

pub sum_of_set : (xs : List ℕ) (i x : ℕ) → i < length xs → sum (set xs i x) + get_or xs i 0 ≡ sum xs + x
unfolding sum
sum_of_set [] i x h = absurd (not-suc-le-zero h)
sum_of_set (y ∷ ys) zero x h = omega arith
sum_of_set (y ∷ ys) (suc i) x h = omega (arith, sum_of_set ys i x (le_of_suc-le-suc h))
