use Rattle.patterns.proofs.DrawLaws.{DrawnTo}
use Rattle.code128.specs.Characters.{patterns}
use Rattle.gs1_128.proofs.drawing.draw_characters.Given as goal

abbrev pub invariant-loop-i : goal.invariant-loop-i
invariant-loop-i l = DrawnTo patterns 6 l.characters l.initial.to l.i l.to
