-- `ean_upc::drawing::half` meets its contract: after i turns the first i characters stand, four widths each, and then what stood there.
use Rattle.std.proofs.Common.{refl, arith}
use Rattle.patterns.proofs.DrawLaws.{draw_begins, draw_goes}
use Rattle.ean_upc.specs.Halves.{patterns_of}
use Rattle.ean_upc.proofs.SetLaws.{sized_sets}
use Rattle.ean_upc.proofs.drawing.half.Goals as goal

pub loop-i-init : goal.loop-i-init
loop-i-init c =
    (refl, draw_begins (patterns_of c.args.sets) 4 c.args.values.now c.args.to.now)

pub loop-i-preserved : goal.loop-i-preserved
loop-i-preserved c =
    let patterns = patterns_of c.args.sets in (
      omega arith,
      rw (c.copy_from_slice.ensures.after, c.pattern-widths.ensures, c.from.ensures)
          (draw_goes patterns 4 c.args.values.now c.args.to.now (sized_sets c.args.sets) c.requires.below c.loop-i.i c.loop-i.to (omega arith) c.loop-i.invariant.1),
    )
