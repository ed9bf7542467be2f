-- EAN-8's drawing meets its contract: the halves are the first four digits and the last four.
use Rattle.std.proofs.Common.{◌∙◌, ap, List, ℕ, take, drop}
use Rattle.std.proofs.Math.ListN.{length-drop}
use native.Mathlib.Omega.{arith}
use lib.Seq.{take_all}
use Rattle.laws.proofs.BelowLaws.{below_take, below_drop}
use Rattle.ean_upc.specs.declared.tables.Sets.TheVariants.{A}
use Rattle.ean_upc.specs.Halves.{halves_drawn}
use Rattle.ean8.specs.Ean8.{symbol}
use Rattle.ean8.proofs.Ean8NumberedEan8DIGITSEan8WIDTHS.symbol.Goals as goal

pub halves-requires-clause-below : goal.halves-requires-clause-below
halves-requires-clause-below c = below_take 10 4 c.args.digits.now c.requires

pub halves-requires-clause-below_2 : goal.halves-requires-clause-below_2
halves-requires-clause-below_2 c = below_take 10 4 (drop 4 c.args.digits.now) (below_drop 10 4 c.args.digits.now c.requires)

pub returns : goal.returns
unfolding symbol
returns c =
    let digits = c.args.digits.now in
    c.halves.ensures ∙ ap (λ (half : List ℕ). halves_drawn A (take 4 digits) half) (take_all 4 (drop 4 digits) (rw length-drop (omega (arith, c.told-digits))))
