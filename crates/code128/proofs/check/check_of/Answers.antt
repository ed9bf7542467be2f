-- `code128::check::check_of` meets its contract: the sum so far and the terms of what is left make the rule's sum, and each of at most 102
-- terms is at most 102 times 255.
use Rattle.std.proofs.Common.{ℕ, ◌+◌, ◌%◌, get_or, add-one, ap, arith}
use Rattle.code128.specs.Check.{check_of}
use Rattle.code128.proofs.PlacedLaws.{placed_more, placed_over, term_most}
use Rattle.code128.proofs.check.check_of.Goals as goal

pub loop-i-preserved : goal.loop-i-preserved
loop-i-preserved c =
    let values = c.args.values.now in
    let i = c.loop-i.i in
    let term = rw (← add-one (i + 1), ← add-one i) at (placed_more (i + 1) values i 0 (omega arith)) in
    rw c.from.ensures (
      omega (arith, term),
      omega (arith, term_most (i + 1) (get_or values i 0) (omega (arith, c.requires.values_len_bound)) (omega (arith, c.type_inv.values i))),
    )

pub returns : goal.returns
unfolding check_of
returns c =
    ap (λ (sum : ℕ). sum % 103) (omega (arith, placed_over (c.loop-i.i + 1) c.args.values.now c.loop-i.i (omega arith)))
