-- A reader has fewer values left, the further it begins.
use Rattle.std.proofs.Common.{◌-◌, length}
use Rattle.code_sets.proofs.readers.+readers.Given as goal

abbrev pub decreases-read_a : goal.decreases-read_a
decreases-read_a l = length l.values.now - l.from

abbrev pub decreases-read_b : goal.decreases-read_b
decreases-read_b l = length l.values.now - l.from

abbrev pub decreases-read_c : goal.decreases-read_c
decreases-read_c l = length l.values.now - l.from
