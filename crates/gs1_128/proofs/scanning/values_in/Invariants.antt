use Rattle.std.proofs.Common.{length, drop}
use Rattle.patterns.proofs.ScanLaws.{ScannedTo}
use Rattle.gs1_128.specs.Symbol.{allowed}
use Rattle.gs1_128.proofs.scanning.values_in.Given as goal

abbrev pub invariant-loop-i : goal.invariant-loop-i
invariant-loop-i l = ScannedTo allowed 6 (length l.initial.values) 1 (drop 6 l.widths) l.i l.values
