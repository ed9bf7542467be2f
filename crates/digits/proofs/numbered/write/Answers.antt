-- `digits::numbered::write` meets its contract: the test's refusal is the rule's, and of a right number the symbol is laid.
use Rattle.std.proofs.Common.{Err, ◌∙◌, ap, refl, length}
use Rattle.std.proofs.Math.ListN.{length-replicate}
use native.Mathlib.Omega.{arith}
use Rattle.laws.proofs.Results.{passed_on}
use Rattle.digits.proofs.NumberedLaws.{tested_values, written_refused, written_laid}
use Rattle.digits.proofs.numbered.write.Goals as goal

pub returns-in_err-values_of : goal.returns-in_err-values_of
returns-in_err-values_of g c =
    let room = length c.args.widths.now in
    let f = c.in_err-values_of.field-0.0 in
    rw (passed_on _ f c.from_residual.ensures.1)
    (written_refused g.row.DIGITS g.S.Numbered.symbol c.args.number.now room (Err f) (rw length-replicate at c.in_err-values_of.ensures.answer) f _ refl)

pub symbol-requires : goal.symbol-requires
symbol-requires g c =
    let passed = tested_values _ c.args.number.now _ c.values_of.new.values _ _ c.values_of.ensures c.in_ok-values_of.was refl in
    let sizes = g.met.S.Numbered.sizes in
    (omega (arith, sizes), (omega (arith, sizes), passed.2))

pub shared_whole_as_slice-lay : goal.shared_whole_as_slice-lay
shared_whole_as_slice-lay g c = omega (arith, g.met.S.Numbered.sizes)

pub returns : goal.returns
returns g c =
    let number = c.args.number.now in
    let symbol = g.S.Numbered.symbol in
    let passed = tested_values _ number _ c.values_of.new.values _ _ c.values_of.ensures c.in_ok-values_of.was refl in
    written_laid g.row.DIGITS symbol number (length c.args.widths.now) _ (rw length-replicate at c.values_of.ensures.answer) _ _ _ _ _ c.in_ok-values_of.was
    (c.symbol.ensures ∙ ap symbol passed.0) c.lay.ensures
