-- `text::widths::put_widths` meets its contract: after i turns i digits stand at the front, and then what stood there.
use Rattle.std.proofs.Common.{◌≡◌, ℕ, ◌+◌, length, length-set, arith}
use lib.ListN.{length-map}
use Rattle.laws.proofs.Copying.{mapped_more}
use Rattle.text.specs.Widths.{run_together}
use Rattle.text.proofs.PutsLaws.{puts_whole}
use Rattle.text.proofs.widths.put_widths.Goals as goal

pub loop-i-preserved : goal.loop-i-preserved
loop-i-preserved c =
    let loop = c.loop-i in
    let args = c.args in (
      simp length-set (omega arith),
      rw loop.invariant.1 (mapped_more (λ (width : ℕ). 48 + width) args.widths.now args.out.now loop.i 0 (omega arith) (omega arith)),
    )

pub returns : goal.returns
returns c =
    let args = c.args in
    let count = length args.widths.now in
    let whole : c.loop-i.i ≡ count = omega arith in
    record { puts = puts_whole (run_together args.widths.now) args.out.now count c.loop-i.out (rw length-map (omega arith)) (rw whole at c.loop-i.invariant.1); value = omega arith }
