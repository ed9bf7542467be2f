use Rattle.std.proofs.Common.{◌≡◌, length}
use Rattle.patterns.proofs.ScanLaws.{ScannedTo}
use Rattle.ean_upc.specs.Halves.{patterns_of}
use Rattle.ean_upc.proofs.scanning.half.Given as goal

abbrev pub invariant-loop-i : goal.invariant-loop-i
invariant-loop-i l =
    (length l.values ≡ length l.initial.values) × ScannedTo (patterns_of l.sets) 4 (length l.initial.values) l.place l.widths l.i l.values
