-- `splitting::split` meets its contract: after i turns the records of i strings are stored, and a message that passed the test has its next
-- string where the turn looks for it; so when the count is reached the records of all stand there.
use Rattle.std.proofs.Common.{ℕ, ◌≡◌, ◌++◌, List, Ok, length, map, drop, sym, ap, ap₂, ◌∙◌, ◌<◌, arith}
use lib.ListN.{length-map}
use lib.Seq.{length-take-le}
use Rattle.laws.proofs.Results.{passed_on}
use Rattle.refusal.specs.Outcome.{made}
use Rattle.refusal.specs.declared.Refusal.TheVariants.{Room}
use Rattle.refusal.proofs.OutcomeLaws.{made_same}
use Rattle.refusal.proofs.FillsLaws.{refused_of_answer, made_of_answer, fills_refused, fills_passed, refused_of_answered, made_of_answered}
use Rattle.elements.specs.declared.Element.{Element}
use Rattle.elements.specs.Strings.{string_at, tested}
use Rattle.splitting.specs.declared.Record.{Record}
use Rattle.splitting.specs.Splitting.{record_of}
use Rattle.splitting.proofs.SplitLaws.{turn_first, turn_found, turn_next, turn_last, splits_refused, splits_short, splits_enough}
use Rattle.splitting.proofs.split.Goals.{In_ok-count}
use Rattle.splitting.proofs.split.Goals as goal

pub returns-in_err-count : goal.returns-in_err-count
returns-in_err-count c =
    let message = c.args.message.now in
    let f = c.in_err-count.field-0.0 in
    fills_passed _ f c.args.records.now _ (passed_on _ f c.from_residual.ensures.1) (splits_refused message _ f (refused_of_answer (tested message) f c.in_err-count.ensures))

right : (c : In_ok-count) → (strings : List Element) × (tested c.args.message.now ≡ made strings) × (length strings ≡ c.in_ok-count.count)
right c =
    made_of_answer (tested c.args.message.now) c.in_ok-count.count c.in_ok-count.ensures

pub returns-then-records-count : goal.returns-then-records-count
returns-then-records-count c =
    let a = right (goal.at.returns-then-records-count c).In_ok-count in
    fills_refused _ Room _ (splits_short c.args.message.now _ a.0 a.1 (omega (arith, a.2)))

pub loop-record-init : goal.loop-record-init
loop-record-init c =
    λ strings e. turn_first c.args.message.now _ strings e

pub returns-in_err-element : goal.returns-in_err-element
returns-in_err-element c =
    let message = c.args.message.now in
    let a = right (goal.at.returns-in_err-element c).In_ok-count in
    let lent = length-take-le c.in_ok-count.count c.args.records.now c.if-records-count.false in
    let none = refused_of_answered (string_at message c.loop-record.at) _ c.in_err-element.ensures in
    absurd (turn_found message _ a.0 _ _ _ (c.loop-record.invariant a.0 a.1) (omega (arith, a.2, c.loop-record-test.true)) _ none)

pub loop-record-preserved : goal.loop-record-preserved
loop-record-preserved c =
    let message = c.args.message.now in
    let a = right (goal.at.loop-record-preserved c).In_ok-count in
    let lent = length-take-le c.in_ok-count.count c.args.records.now c.if-records-count.false in
    let string = c.in_ok-element.element in
    let here = made_of_answered (string_at message c.loop-record.at) string c.in_ok-element.ensures in
    λ strings e.
    let more : c.loop-record.record-index < length strings = omega (arith, ap length (made_same a.0 strings (sym a.1 ∙ e)), a.2, c.loop-record-test.true) in
    rw c.from.ensures (turn_next message _ strings _ _ _ (c.loop-record.invariant strings e) more string here (omega (arith, c.loop-record-test.true)))

pub returns : goal.returns
returns c =
    let message = c.args.message.now in
    let records = c.args.records.now in
    let count = c.in_ok-count.count in
    let a = right (goal.at.returns c).In_ok-count in
    let lent = length-take-le count records c.if-records-count.false in
    let all = turn_last message _ a.0 _ _ _ (c.loop-record.invariant a.0 a.1) (omega (arith, a.2, c.loop-record-test.false)) (omega (arith, c.loop-record-test.false)) in
    let long : length (map record_of a.0) ≡ count = length-map a.0 record_of ∙ a.2 in
    rw (splits_enough message (length records) a.0 a.1 (omega (arith, a.2)))
    (record { answer = ap Ok (sym long); lent = ap₂ (λ (front : List Record) (n : ℕ). front ++ drop n records) all (sym long) })
