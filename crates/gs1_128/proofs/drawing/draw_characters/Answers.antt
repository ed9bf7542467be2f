-- `gs1_128::drawing::draw_characters` meets its contract: after i turns the first i characters stand, six widths each, and then what stood
-- there.
use Rattle.std.proofs.Common.{arith}
use Rattle.patterns.proofs.DrawLaws.{draw_begins, draw_goes}
use Rattle.code128.specs.Characters.{patterns}
use Rattle.code128.proofs.PatternLaws.{patterns_are, patterns_sized}
use Rattle.gs1_128.proofs.drawing.draw_characters.Goals as goal

pub loop-i-init : goal.loop-i-init
loop-i-init c = draw_begins patterns 6 c.args.characters.now c.args.to.now

pub loop-i-preserved : goal.loop-i-preserved
loop-i-preserved c =
    rw (c.put_pattern.ensures, c.from.ensures)
    (draw_goes patterns 6 c.args.characters.now c.args.to.now patterns_sized (rw patterns_are c.requires.below) c.loop-i.i c.loop-i.to (omega arith) c.loop-i.invariant)
