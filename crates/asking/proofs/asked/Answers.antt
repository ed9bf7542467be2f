-- `asking::asked` meets its contract: what was found is the rule's.
use Rattle.std.proofs.Common.{sym, ap, ◌∙◌}
use Rattle.laws.proofs.Results.{passed_on}
use Rattle.refusal.specs.Outcome.{Outcome}
use Rattle.refusal.specs.Fills.{answered}
use Rattle.refusal.proofs.FillsLaws.{refused_of_answered, made_of_answered}
use Rattle.elements.specs.declared.Element.{Element}
use Rattle.asking.specs.Asking.{asked, length_of}
use Rattle.asking.proofs.asked.Goals as goal

pub returns-in_err-element : goal.returns-in_err-element
returns-in_err-element c =
    let is = refused_of_answered (asked c.args.message.now c.args.identifier) _ c.in_err-element.ensures in
    passed_on _ _ c.from_residual.ensures.1 ∙ sym (ap (λ (o : Outcome Element). answered (length_of o)) is)

pub returns : goal.returns
returns c =
    let is = made_of_answered (asked c.args.message.now c.args.identifier) _ c.in_ok-element.ensures in
    sym (ap (λ (o : Outcome Element). answered (length_of o)) is)
