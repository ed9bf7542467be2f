use Rattle.std.proofs.Common.{◌≡◌, ℕ, List, map, ◌≤◌, length, ◌++◌, ◌*◌}
use Rattle.laws.specs.Weighed.{weighed}
use Rattle.digits.specs.Digit.{value_of}
use Rattle.digits.specs.Check.{weight_at}
use Rattle.digits.proofs.weighed_sum.Given as goal

abbrev pub invariant-loop-digit : goal.invariant-loop-digit
invariant-loop-digit l =
    (passed : List ℕ)
    × (l.digits ≡ l.digit-iterator.iter.rest.now ++ passed)
    × (l.weight ≡ weight_at (length passed))
    × (l.sum ≡ weighed weight_at (map value_of passed))
    × (l.sum ≤ 27 * length passed)
