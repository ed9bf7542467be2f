-- The weights 3 and 1 take turns: a distance is even or odd, and one more is the other.
use Prim.Native.Nat.{ℕ, zero, suc, ◌-◌, ◌*◌, ◌%◌, ◌≤◌}
use mathlib.Core.Path.{◌≡◌, refl}
use mathlib.Core.Logic.{◌⊎◌, inl, inr}
use native.Mathlib.Nat.{mul-le-mul}
use native.Mathlib.Omega.{arith}
use borrow.Author.Tests.{eq-eqb, ne_eqb}
use Rattle.digits.specs.Check.{weight_at}

even_or_odd : (k : ℕ) → (k % 2 ≡ 0) ⊎ (k % 2 ≡ 1)
even_or_odd k = go (k % 2) (omega arith)
  where
    go : (m : ℕ) → m ≤ 1 → (m ≡ 0) ⊎ (m ≡ 1)
    go zero h = inl refl
    go (suc m) h = inr (omega arith)

pub weight_of_even : (k : ℕ) → k % 2 ≡ 0 → weight_at k ≡ 3
unfolding weight_at
weight_of_even k e = rw (eq-eqb (k % 2) 0 e)

pub weight_of_odd : (k : ℕ) → k % 2 ≡ 1 → weight_at k ≡ 1
unfolding weight_at
weight_of_odd k e = rw (ne_eqb (k % 2) 0 (omega arith))

pub weight_most : (k : ℕ) → weight_at k ≤ 3
weight_most k = go (even_or_odd k)
  where
    go : (k % 2 ≡ 0) ⊎ (k % 2 ≡ 1) → weight_at k ≤ 3
    go (inl e) = omega (arith, weight_of_even k e)
    go (inr e) = omega (arith, weight_of_odd k e)

pub weight_turns : (k : ℕ) → 4 - weight_at k ≡ weight_at (suc k)
weight_turns k = go (even_or_odd k)
  where
    go : (k % 2 ≡ 0) ⊎ (k % 2 ≡ 1) → 4 - weight_at k ≡ weight_at (suc k)
    go (inl e) = omega (arith, weight_of_even k e, weight_of_odd (suc k) (omega arith))
    go (inr e) = omega (arith, weight_of_odd k e, weight_of_even (suc k) (omega arith))

-- a digit times its weight
pub product_most : (k d : ℕ) → d ≤ 9 → weight_at k * d ≤ 27
product_most k d h = mul-le-mul (weight_most k) h
