-- `values::message_from` meets its contract: what the sets' reader or the message's test refuses is passed on, and the text that passed both
-- stands at the front of the list.
use Rattle.std.proofs.Common.{◌≡◌, ◌≤◌, length, take, refl, sym, ◌∙◌, arith}
use Rattle.laws.proofs.Results.{passed_on}
use Rattle.refusal.specs.Outcome.{made}
use Rattle.refusal.proofs.FillsLaws.{refused_of_answer, made_of_answer}
use Rattle.refusal.proofs.OwnLaws.{own_refused, own_same, own_front}
use Rattle.code_sets.specs.Reading.{decoded}
use Rattle.gs1_128.proofs.StageLaws.{text_refused, message_wrong, message_right}
use Rattle.gs1_128.proofs.values.message_from.Goals.{In_ok-count}
use Rattle.gs1_128.proofs.values.message_from.Goals as goal

pub returns-in_err-count : goal.returns-in_err-count
returns-in_err-count c =
    let f = c.in_err-count.field-0.0 in
    rw (passed_on _ f c.from_residual.ensures.1) (own_refused _ _ _ f (text_refused c.args.start c.args.values.now f (refused_of_answer _ f c.in_err-count.ensures.answer)))

front : (c : In_ok-count) → (decoded c.args.start c.args.values.now ≡ made (take c.in_ok-count.count c.text_of.new.text)) × (c.in_ok-count.count ≤ length c.text_of.new.text)
front c = own_front _ _ c.text_of.new.text _ c.in_ok-count.count refl c.in_ok-count.ensures

pub shared_ref_as_front-test : goal.shared_ref_as_front-test
shared_ref_as_front-test c = omega (arith, c.text_of.auto.text, (front (goal.at.shared_ref_as_front-test c).In_ok-count).1)

pub returns-in_err-test : goal.returns-in_err-test
returns-in_err-test c =
    let f = c.in_err-test.field-0.0 in
    rw (passed_on _ f c.from_residual-in_err-test.ensures.1)
    (own_refused _ _ _ f
    (message_wrong c.args.start c.args.values.now _ (front (goal.at.returns-in_err-test c).In_ok-count).0 f (refused_of_answer _ f c.in_err-test.ensures)))

pub returns : goal.returns
returns c =
    let text = (front (goal.at.returns c).In_ok-count).0 in
    let strings = made_of_answer _ _ c.in_ok-test.ensures in
    own_same _ _ _ _ _ (message_right c.args.start c.args.values.now _ text strings.0 strings.1 ∙ sym text) c.in_ok-count.ensures
