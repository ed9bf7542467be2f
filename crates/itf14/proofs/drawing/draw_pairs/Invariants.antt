use Rattle.std.proofs.Common.{◌≡◌, length}
use Rattle.patterns.proofs.DrawLaws.{DrawnTo}
use Rattle.itf14.specs.Tables.{pairs}
use Rattle.itf14.specs.Itf14.{paired}
use Rattle.itf14.proofs.drawing.draw_pairs.Given as goal

abbrev pub invariant-loop-i : goal.invariant-loop-i
invariant-loop-i l = (length l.to ≡ 70) × DrawnTo pairs 10 (paired l.digits) l.initial.to l.i l.to
