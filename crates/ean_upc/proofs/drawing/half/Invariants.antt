use Rattle.std.proofs.Common.{◌≡◌, length}
use Rattle.patterns.proofs.DrawLaws.{DrawnTo}
use Rattle.ean_upc.specs.Halves.{patterns_of}
use Rattle.ean_upc.proofs.drawing.half.Given as goal

abbrev pub invariant-loop-i : goal.invariant-loop-i
invariant-loop-i l = (length l.to ≡ length l.initial.to) × DrawnTo (patterns_of l.sets) 4 l.values l.initial.to l.i l.to
