-- `text::typed::put_fitting` meets its contract: the lesser of the two counts is as much as fits.
use Prim.Native.Nat.{min}
use mathlib.Core.Path.{◌≡◌}
use native.Mathlib.Omega.{arith}
use lib.ListN.{length}
use Rattle.text.proofs.PutsLaws.{puts_fitting}
use Rattle.text.proofs.typed.put_fitting.Goals as goal

pub returns : goal.returns
returns c =
    let out = c.args.out.now in
    let source = c.args.source.now in
    let count = c.min-count.result in
    let least : count ≡ min (length out) (length source) = omega (arith, c.min-count.ensures) in
    puts_fitting source out count _ least (rw c.copy_from_slice.ensures.after)
