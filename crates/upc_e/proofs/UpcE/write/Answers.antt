-- `upc_e::UpcE::write` meets its contract: the test's refusal is the rule's, then that of condensing; of what a number is condensed to the symbol
-- is laid.
use Rattle.std.proofs.Common.{◌≡◌, ◌∙◌, sym, ap, refl, List, ℕ, length, map}
use Rattle.laws.specs.Below.{Below}
use Rattle.laws.proofs.Results.{passed_on}
use Rattle.refusal.specs.Outcome.{made}
use Rattle.refusal.specs.Fills.{laying}
use Rattle.refusal.proofs.FillsLaws.{refused_of_answer, refused_of_answered, made_of_answered, fills_refused, fills_same}
use Rattle.digits.specs.Digit.{value_of}
use Rattle.digits.specs.Check.{right_number}
use Rattle.digits.proofs.NumberedLaws.{tested_values, right_done, right_of_parts}
use Rattle.upc_e.specs.UpcE.{writes}
use Rattle.upc_e.proofs.CondensingLaws.{condensed_below}
use Rattle.upc_e.proofs.UpcE.write.Goals.{After-condense}
use Rattle.upc_e.proofs.UpcE.write.Goals as goal

pub returns-in_err-values_of : goal.returns-in_err-values_of
unfolding writes
returns-in_err-values_of c =
    let f = c.in_err-values_of.field-0.0 in
    rw (passed_on _ f c.from_residual.ensures.1)
    (fills_refused _ f _ (rw (refused_of_answer (right_number 12 c.args.number.now) f c.in_err-values_of.ensures.answer)))

passed : (c : After-condense) → (c.values_of.new.values ≡ map value_of c.args.number.now) × (length c.values_of.new.values ≡ 12) × Below 10 c.values_of.new.values
passed c = tested_values 12 c.args.number.now _ c.values_of.new.values _ _ c.values_of.ensures c.in_ok-values_of.was refl

right : (c : After-condense) → right_number 12 c.args.number.now ≡ made c.values_of.new.values
right c =
    let number = c.args.number.now in
    right_of_parts 12 number _ (right_done 12 number _ c.in_ok-values_of.ensures.answer) ∙ ap made (sym (passed c).0)

pub returns-in_err-short : goal.returns-in_err-short
unfolding writes
returns-in_err-short c =
    let f = c.in_err-short.field-0.0 in
    rw (passed_on _ f c.from_residual-in_err-short.ensures.1)
    (fills_refused _ f _ (rw (right (goal.at.returns-in_err-short c).After-condense, refused_of_answered _ f c.in_err-short.ensures)))

pub symbol-requires : goal.symbol-requires
symbol-requires c =
    condensed_below _ _ (made_of_answered _ c.in_ok-short.short c.in_ok-short.ensures) (passed (goal.at.symbol-requires c).After-condense).2

pub returns : goal.returns
unfolding writes
returns c =
    let room = length c.args.widths.now in
    let short = made_of_answered _ c.in_ok-short.short c.in_ok-short.ensures in
    fills_same _ _ _ _ _ (rw (right (goal.at.returns c).After-condense, short) (ap (λ (bars : List ℕ). laying bars room) (sym c.symbol.ensures))) c.lay.ensures
