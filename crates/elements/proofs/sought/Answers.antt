-- `elements::sought` meets its contract: the strings passed have other identifiers, so the string sought is the one sought among those
-- that are left.
use mathlib.Core.Path.{◌≡◌, refl, sym, ap}
use mathlib.Core.List.{[]}
use native.Mathlib.Omega.{arith}
use Rattle.refusal.specs.Fills.{answered}
use Rattle.refusal.specs.Outcome.{made}
use Rattle.refusal.proofs.FillsLaws.{refused_of_answered, made_of_answered}
use Rattle.elements.specs.Strings.{string_at}
use Rattle.elements.proofs.CountLaws.{found_next}
use Rattle.elements.proofs.WalkLaws.{from_start, never_refused, left_here, left_last, left_more}
use Rattle.elements.proofs.sought.Goals.{In_ok-element, then-element-identifier-via-then-element-identifier, then-element-identifier-via-else-element-identifier+then-element}
use Rattle.elements.proofs.sought.Goals as goal

pub loop-element-init : goal.loop-element-init
loop-element-init c =
    (omega arith, λ strings e. record { used = []; rest = strings; from = from_start c.args.message.now strings e; same = refl })

pub returns-in_err-element : goal.returns-in_err-element
returns-in_err-element c =
    let message = c.args.message.now in
    let at = c.loop-element.at in
    let here = refused_of_answered (string_at message at) _ c.in_err-element.ensures in
    λ strings e. absurd (never_refused message c.args.identifier at strings (c.loop-element.invariant.1 strings e) _ here)

here : (c : In_ok-element) → string_at c.args.message.now c.loop-element.at ≡ made c.in_ok-element.element
here c =
    made_of_answered (string_at c.args.message.now c.loop-element.at) c.in_ok-element.element c.in_ok-element.ensures

pub returns-then-element-identifier : goal.returns-then-element-identifier
returns-then-element-identifier c =
    let message = c.args.message.now in
    let x = c.args.identifier in
    let at = c.loop-element.at in
    let string = c.in_ok-element.element in
    let found = here (goal.at.returns-then-element-identifier c).In_ok-element in
    λ strings e. sym (ap answered (elim c.then-element-identifier.branch [
      | then-element-identifier-via-then-element-identifier w ↦ left_here message x at strings (c.loop-element.invariant.1 strings e) string found w.if-element-identifier.true
      | then-element-identifier-via-else-element-identifier+then-element w ↦ left_last message x at strings (c.loop-element.invariant.1 strings e) string found w.if-element.true
    ]))

pub loop-element-smaller : goal.loop-element-smaller
loop-element-smaller c =
    omega (arith, found_next c.args.message.now c.loop-element.at c.in_ok-element.element c.loop-element.invariant.0 c.in_ok-element.ensures c.if-element.false)

pub loop-element-preserved : goal.loop-element-preserved
loop-element-preserved c =
    let there = (goal.at.loop-element-preserved c).In_ok-element in
    let message = c.args.message.now in
    let at = c.loop-element.at in
    let string = c.in_ok-element.element in
    let more = c.if-element.false in
    ((found_next message at string c.loop-element.invariant.0 c.in_ok-element.ensures more).0, λ strings e. left_more message c.args.identifier at strings (c.loop-element.invariant.1 strings e) string (here there) c.if-element-identifier.false more)
