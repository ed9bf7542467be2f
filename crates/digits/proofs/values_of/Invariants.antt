use Rattle.std.proofs.Common.{◌≡◌, map, ◌++◌, take, drop}
use Rattle.digits.specs.Digit.{value_of}
use Rattle.digits.proofs.values_of.Given as goal

abbrev pub invariant-loop-i : goal.invariant-loop-i
invariant-loop-i l = l.values ≡ take l.i (map value_of l.number) ++ drop l.i l.initial.values
