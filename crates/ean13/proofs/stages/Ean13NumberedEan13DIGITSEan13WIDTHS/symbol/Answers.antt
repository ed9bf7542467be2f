-- EAN-13's drawing meets its contract: the left half's values are those of the first digit's row, and the halves are the rule's.
use Rattle.std.proofs.Common.{◌≡◌, ◌∙◌, ap, ap₂, ℕ, List, take, drop}
use Rattle.std.proofs.Math.ListN.{length-drop}
use native.Mathlib.Omega.{arith}
use lib.Seq.{take_all}
use Rattle.laws.proofs.BelowLaws.{below_take, below_drop}
use Rattle.parity.specs.Letters.{in_sets}
use Rattle.parity.proofs.RowLaws as Row
use Rattle.ean_upc.specs.declared.tables.Sets.TheVariants.{AOrB}
use Rattle.ean_upc.specs.Halves.{halves_drawn}
use Rattle.ean13.specs.Ean13.{symbol}
use Rattle.ean13.proofs.SymbolLaws.{left_half}
use Rattle.ean13.proofs.stages.Ean13NumberedEan13DIGITSEan13WIDTHS.symbol.Goals.{After-in_sets-left}
use Rattle.ean13.proofs.stages.Ean13NumberedEan13DIGITSEan13WIDTHS.symbol.Goals as goal

pub in_sets-left-requires-clause-below : goal.in_sets-left-requires-clause-below
in_sets-left-requires-clause-below c =
    rw (c.row_of-row.ensures, c.from.ensures) (Row.letters_below (left_half c.args.digits.now c.told-digits c.requires))

pub in_sets-left-requires-clause-below_2 : goal.in_sets-left-requires-clause-below_2
in_sets-left-requires-clause-below_2 c = (left_half c.args.digits.now c.told-digits c.requires).below

left_is : (c : After-in_sets-left) → c.in_sets-left.result ≡ Row.values (left_half c.args.digits.now c.told-digits c.requires)
left_is c =
    c.in_sets-left.ensures ∙ ap (λ (letters : List ℕ). in_sets letters (take 6 (drop 1 c.args.digits.now))) (rw c.from.ensures at c.row_of-row.ensures)

pub halves-requires-clause-below : goal.halves-requires-clause-below
halves-requires-clause-below c =
    rw (left_is (goal.at.halves-requires-clause-below c).After-in_sets-left) (Row.values_below (left_half c.args.digits.now c.told-digits c.requires))

pub halves-requires-clause-below_2 : goal.halves-requires-clause-below_2
halves-requires-clause-below_2 c = below_take 10 6 (drop 7 c.args.digits.now) (below_drop 10 7 c.args.digits.now c.requires)

pub returns : goal.returns
unfolding symbol
returns c =
    let digits = c.args.digits.now in
    c.halves.ensures ∙ ap₂ (halves_drawn AOrB) (left_is (goal.at.returns c).After-in_sets-left) (take_all 6 (drop 7 digits) (rw length-drop (omega (arith, c.told-digits))))
