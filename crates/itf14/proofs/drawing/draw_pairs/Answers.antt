-- `itf14::drawing::draw_pairs` meets its contract: after i turns the first i pairs stand, ten widths each, and then what stood there.
use Rattle.std.proofs.Common.{ℕ, ◌≡◌, [], length, get_or, ap, ◌∙◌, arith}
use Rattle.laws.specs.Below.{Below}
use Rattle.patterns.proofs.DrawLaws.{draw_begins, draw_goes}
use Rattle.itf14.specs.Tables.{pairs}
use Rattle.itf14.specs.Itf14.{paired}
use Rattle.itf14.proofs.PairLaws.{length_pairs, sized_pairs}
use Rattle.itf14.proofs.PairedLaws.{length_paired, paired_below, paired_at}
use Rattle.itf14.proofs.drawing.draw_pairs.Goals as goal

pub loop-i-init : goal.loop-i-init
loop-i-init c =
    (c.requires.to_len, draw_begins pairs 10 (paired c.args.digits.now) c.args.to.now)

pub loop-i-preserved : goal.loop-i-preserved
loop-i-preserved c =
    let digits = c.args.digits.now in
    let i = c.loop-i.i in
    let seven = length_paired 7 digits c.told-digits in
    let within : Below (length pairs) (paired digits) = rw length_pairs (paired_below 7 digits c.told-digits c.requires.below) in
    let pair : c.pair-pair.result ≡ get_or pairs (get_or (paired digits) i 0) [] =
    c.pair-pair.ensures ∙ ap (λ (v : ℕ). get_or pairs v []) (omega (arith, paired_at digits i (omega arith))) in (
      omega arith,
      rw (c.copy_from_slice.ensures.after, pair)
          (draw_goes pairs 10 (paired digits) c.args.to.now sized_pairs within i c.loop-i.to (omega (arith, seven)) c.loop-i.invariant.1),
    )
