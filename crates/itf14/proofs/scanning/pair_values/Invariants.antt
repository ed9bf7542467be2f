use Rattle.std.proofs.Common.{◌≡◌, length, drop}
use Rattle.patterns.proofs.ScanLaws.{ScannedTo}
use Rattle.itf14.specs.Tables.{pairs}
use Rattle.itf14.proofs.scanning.pair_values.Given as goal

abbrev pub invariant-loop-i : goal.invariant-loop-i
invariant-loop-i l = (length l.values ≡ 7) × ScannedTo pairs 10 7 0 (drop 4 l.widths) l.i l.values
