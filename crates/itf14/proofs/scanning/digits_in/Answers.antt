-- `itf14::scanning::digits_in` meets its contract: the pairs' refusal is the rule's, and two digits of each pair fill the list.
use mathlib.Core.Path.{sym, ap, ◌∙◌}
use native.Mathlib.Omega.{arith}
use Rattle.laws.proofs.Results.{passed_on}
use Rattle.refusal.specs.Outcome.{made}
use Rattle.refusal.proofs.FillsLaws.{refused_of_answer}
use Rattle.refusal.proofs.OwnLaws.{own_passed, own_filled, own_made}
use Rattle.patterns.specs.Between.{between}
use Rattle.patterns.proofs.BetweenLaws.{drawn_of_between}
use Rattle.itf14.specs.Tables.{pairs, start, stop}
use Rattle.itf14.specs.Itf14.{scanned}
use Rattle.itf14.proofs.scanning.digits_in.Goals as goal

pub returns-in_err-pair_values : goal.returns-in_err-pair_values
unfolding scanned
returns-in_err-pair_values c =
    let f = c.in_err-pair_values.field-0.0 in
    own_passed _ _ _ f _ (passed_on _ f c.from_residual.ensures.1)
    (rw (refused_of_answer (between start stop pairs 10 7 c.args.widths.now) f (sym c.in_err-pair_values.was ∙ c.pair_values.ensures.answer)))

pub returns : goal.returns
unfolding scanned
returns c =
    let widths = c.args.widths.now in
    let values = c.pair_values.new.values in
    let scan = own_made (between start stop pairs 10 7 widths) _ values _ c.in_ok-pair_values.field-0 c.in_ok-pair_values.was c.pair_values.ensures (λ vs e. (drawn_of_between start stop pairs 10 7 widths vs e).1) in
    own_filled _ _ _ 14 (rw scan (ap made (sym c.digits_of.ensures))) (omega arith) (omega arith)
