-- `Gs1128::message_in` meets its contract: a count or ends that are wrong are the rule's refusals, and after a start the rule goes on as the
-- symbol's message does.
use Rattle.std.proofs.Common.{◌≡◌, ℕ, ◌-◌, ◌/◌, true, length, sym, ap, ◌∙◌, arith}
use Rattle.laws.proofs.Results.{passed_on}
use Rattle.refusal.specs.declared.Refusal.TheVariants.{Count}
use Rattle.refusal.specs.Outcome.{made, ◌>>=◌}
use Rattle.refusal.proofs.FillsLaws.{refused_of_answered, made_of_answered}
use Rattle.refusal.proofs.OwnLaws.{own_refused, own_same}
use Rattle.gs1_128.specs.Symbol.{permitted}
use Rattle.gs1_128.specs.Scanning.{start_in, values_in, judged_values}
use Rattle.gs1_128.specs.Rules.{message_from}
use Rattle.gs1_128.proofs.CountLaws.{Counted, count_permitted}
use Rattle.gs1_128.proofs.StageLaws.{start_below, message_count, message_guard, message_started}
use Rattle.gs1_128.proofs.Gs1128.message_in.Goals.{Else-not-permits, In_ok-start}
use Rattle.gs1_128.proofs.Gs1128.message_in.Goals as goal

pub returns-then-not-permits : goal.returns-then-not-permits
returns-then-not-permits c =
    own_refused _ _ _ Count (message_count c.args.widths.now (sym c.permits.ensures ∙ c.if-not-permits.true))

permits : (c : Else-not-permits) → permitted (length c.args.widths.now) ≡ true
permits c =
    sym c.permits.ensures ∙ c.if-not-permits.false

counted : (c : Else-not-permits) → Counted (length c.args.widths.now) ((length c.args.widths.now - 19) / 6)
counted c =
    count_permitted (length c.args.widths.now) (permits c)

pub returns-in_err-start : goal.returns-in_err-start
returns-in_err-start c =
    let f = c.in_err-start.field-0.0 in
    rw (passed_on _ f c.from_residual.ensures.1)
    (own_refused _ _ _ f (message_guard c.args.widths.now (permits (goal.at.returns-in_err-start c).Else-not-permits) f (refused_of_answered _ f c.in_err-start.ensures)))

begun : (c : In_ok-start) → start_in c.args.widths.now ≡ made c.in_ok-start.start
begun c =
    made_of_answered _ c.in_ok-start.start c.in_ok-start.ensures

pub message-requires-clause-start_bound : goal.message-requires-clause-start_bound
message-requires-clause-start_bound c =
    omega (arith, c.of_widths-symbol.ensures.start_value, start_below c.args.widths.now c.in_ok-start.start (begun (goal.at.message-requires-clause-start_bound c).In_ok-start))

pub returns : goal.returns
returns c =
    let widths = c.args.widths.now in
    own_same _ _ _ _ _
    (message_started widths (permits (goal.at.returns c).Else-not-permits) c.in_ok-start.start (begun (goal.at.returns c).In_ok-start)
    ∙ ap (λ (s : ℕ). values_in widths >>= (λ values. judged_values s values >>= message_from s)) (sym c.of_widths-symbol.ensures.start_value))
    c.message.ensures
