-- `Gs1128::read_in` meets its promise: the message is made in a list of the call's own, and laid into the lent one last.
use Rattle.std.proofs.Common.{◌≡◌, ◌≤◌, length, take, refl, arith}
use Rattle.laws.proofs.Results.{passed_on}
use Rattle.refusal.specs.Outcome.{made}
use Rattle.refusal.proofs.FillsLaws.{refused_of_answer, fills_refused, fills_same}
use Rattle.refusal.proofs.OwnLaws.{own_front}
use Rattle.gs1_128.specs.Rules.{message_in}
use Rattle.gs1_128.proofs.StageLaws.{reads_refused, reads_laying}
use Rattle.gs1_128.proofs.Gs1128.read_in.Goals.{In_ok-count}
use Rattle.gs1_128.proofs.Gs1128.read_in.Goals as goal

pub returns-in_err-count : goal.returns-in_err-count
returns-in_err-count c =
    let f = c.in_err-count.field-0.0 in
    rw (passed_on _ f c.from_residual.ensures.1)
    (fills_refused _ f _ (reads_refused c.args.widths.now (length c.args.message.now) f (refused_of_answer _ f c.in_err-count.ensures.answer)))

front : (c : In_ok-count) → (message_in c.args.widths.now ≡ made (take c.in_ok-count.count c.message_in.new.text)) × (c.in_ok-count.count ≤ length c.message_in.new.text)
front c = own_front _ _ c.message_in.new.text _ c.in_ok-count.count refl c.in_ok-count.ensures

pub shared_ref_as_front-lay : goal.shared_ref_as_front-lay
shared_ref_as_front-lay c = omega (arith, c.message_in.array_long, (front (goal.at.shared_ref_as_front-lay c).In_ok-count).1)

pub returns : goal.returns
returns c =
    fills_same _ _ _ _ _ (reads_laying c.args.widths.now (length c.args.message.now) _ (front (goal.at.returns c).In_ok-count).0) c.lay.ensures
