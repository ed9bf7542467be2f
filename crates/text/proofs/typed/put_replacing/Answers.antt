-- `text::typed::put_replacing` meets its contract: after i turns the front holds i bytes, replaced, and then what it held, and there are as
-- many turns as the shorter of the two lists has bytes.
use Rattle.std.proofs.Common.{◌≡◌, map, length-set, arith}
use lib.ListN.{length-map}
use Rattle.laws.proofs.Copying.{mapped_more}
use Rattle.text.specs.Typed.{replacing}
use Rattle.text.proofs.PutsLaws.{puts_fitting}
use Rattle.text.proofs.typed.put_replacing.Goals as goal

pub loop-i-preserved : goal.loop-i-preserved
loop-i-preserved c =
    let loop = c.loop-i in
    let args = c.args in (
      simp length-set (omega arith),
      rw (loop.invariant.1, c.replaced.ensures) (mapped_more (replacing args.old args.new) args.bytes.now args.out.now loop.i 0 (omega arith) (omega arith)),
    )

pub returns : goal.returns
returns c =
    let args = c.args in
    let count = c.min-count.result in
    let whole : c.loop-i.i ≡ count = omega arith in
    let typed = map (replacing args.old args.new) args.bytes.now in
    record { puts = puts_fitting typed args.out.now count c.loop-i.out (rw length-map (omega arith)) (rw whole at c.loop-i.invariant.1); value = omega arith }
