-- What `(a..=b).contains(&x)` answers at numbers: the two tests of the bounds.
use Rattle.std.proofs.Common.{ℕ, false, Some, ◌≡◌, ap₂, arith}
use mathlib.Core.Bool.{◌&&◌}
use lib.Dec.{leb}
use Rattle.std.specs.Ordering.{is_le, nat_cmp}
use Rattle.std.specs.Range.{range_inclusive_start, range_inclusive_end, range_inclusive_exhausted, range_inclusive_contains}
use Rattle.std.specs.declared.ops.RangeInclusive.{RangeInclusive}

le_is : (a b : ℕ) → is_le (nat_cmp a b) ≡ leb a b
le_is a b = grind arith

pub range_has : (s : RangeInclusive ℕ) (a b x : ℕ) → range_inclusive_start s ≡ a → range_inclusive_end s ≡ b → range_inclusive_exhausted s ≡ false → range_inclusive_contains (λ x y. Some (nat_cmp x y)) s x ≡ (leb a x && leb x b)
range_has s a b x start end whole = rw (start, end, whole) (ap₂ ◌&&◌ (le_is a x) (le_is x b))
