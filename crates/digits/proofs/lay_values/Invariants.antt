use Rattle.std.proofs.Common.{◌≡◌, map, ◌++◌, take, drop}
use Rattle.digits.specs.Numbered.{byte_of}
use Rattle.digits.proofs.lay_values.Given as goal

abbrev pub invariant-loop-i : goal.invariant-loop-i
invariant-loop-i l = l.number ≡ take l.i (map byte_of l.values) ++ drop l.i l.initial.number
