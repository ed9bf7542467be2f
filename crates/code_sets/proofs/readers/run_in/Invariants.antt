use Rattle.std.proofs.Common.{◌-◌, length}
use Rattle.code_sets.specs.Reading.{in_set}
use Rattle.code_sets.specs.Readers.{Came}
use Rattle.code_sets.proofs.readers.run_in.Given as goal

abbrev pub invariant-loop-i : goal.invariant-loop-i
invariant-loop-i l = Came (in_set l.set) l.values l.from l.initial.text l.at (in_set l.set) l.i l.text l.n

abbrev pub decreases-loop-i : goal.decreases-loop-i
decreases-loop-i l = length l.values - l.i
