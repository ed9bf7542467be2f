-- `ean_upc::drawing::halves` meets its contract: each part joins what was drawn before it, and the last guard fills what is left.
use Rattle.std.proofs.Common.{◌+◌, ◌*◌, length, arith}
use Rattle.patterns.specs.Patterns.{drawn}
use Rattle.ean_upc.specs.declared.tables.Sets.TheVariants.{C}
use Rattle.ean_upc.specs.Tables.{set_c, guard, centre}
use Rattle.ean_upc.specs.Halves.{patterns_of, halves_drawn}
use Rattle.ean_upc.proofs.SetLaws.{length_of_half}
use Rattle.ean_upc.proofs.DrawnLaws.{guarded_halves}
use Rattle.ean_upc.proofs.drawing.halves.Goals as goal

pub returns : goal.returns
unfolding halves_drawn
returns c =
    let sets = c.args.sets in
    let left = c.args.left.now in
    let right = c.args.right.now in
    let left-long = length_of_half sets left c.requires.below in
    let right_long = length_of_half C right c.requires.below_2 in
    let centre-at = 3 + 4 * length left in
    rw (c.guarded_half.ensures, c.guarded_half-2.ensures, c.copy_from_slice.ensures.after)
    (guarded_halves c.args.to.now guard (drawn (patterns_of sets) left) centre (drawn set_c right) centre-at
    (centre-at + 5 + 4 * length right) (omega arith) (omega arith))
