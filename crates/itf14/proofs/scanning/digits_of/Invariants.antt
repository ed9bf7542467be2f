use Rattle.std.proofs.Common.{◌≡◌, ◌*◌, ◌++◌, take, drop}
use Rattle.itf14.specs.Itf14.{unpaired}
use Rattle.itf14.proofs.scanning.digits_of.Given as goal

abbrev pub invariant-loop-i : goal.invariant-loop-i
invariant-loop-i l = l.digits ≡ take (2 * l.i) (unpaired l.values) ++ drop (2 * l.i) l.initial.digits
