-- `adding::judging::closing_of` meets its contract: of a message with strings, the string of the identifier or else the last one tells
-- whether the identifier was used, and what closes the message.
use Rattle.std.specs.Prelude.{Ok}
use Prim.Native.Nat.{◌≤◌}
use mathlib.Core.Path.{◌≡◌, sym, ap, ◌∙◌}
use mathlib.Core.List.{List, []}
use native.Mathlib.Omega.{arith}
use borrow.Author.Tests.{eq-eqb, ne_eqb, eqb-true, eqb-false}
use lib.ListN.{length}
use Rattle.laws.proofs.Results.{passed_on}
use Rattle.refusal.specs.Outcome.{Outcome, made, ◌>>=◌}
use Rattle.refusal.specs.Fills.{answer_of}
use Rattle.refusal.proofs.OutcomeLaws.{made_same}
use Rattle.refusal.proofs.FillsLaws.{refused_of_answered, made_of_answered}
use Rattle.elements.specs.declared.Element.{Element}
use Rattle.elements.specs.Strings.{parsed}
use Rattle.elements.specs.Found.{sought}
use Rattle.laws.proofs.AmongLaws.{among_of_nil}
use Rattle.elements.proofs.FromRule.{tested_made}
use Rattle.adding.specs.Adding.{sofar, unused_in}
use Rattle.adding.proofs.AddLaws.{sofar_none, sofar_tested, after, unused_sought}
use Rattle.adding.proofs.judging.closing_of.Goals.{After-sought}
use Rattle.adding.proofs.judging.closing_of.Goals as goal

pub returns-then-is_empty : goal.returns-then-is_empty
unfolding unused_in
returns-then-is_empty c =
    λ strings e.
    let empty = eqb-true _ 0 (sym c.is_empty.ensures ∙ c.if-is_empty.true) in
    let none : made [] ≡ made strings = rw (sofar_none c.args.old.now (omega arith)) at e in
    rw (← made_same [] strings none, among_of_nil c.args.identifier)

some : (c : After-sought) → 1 ≤ length c.args.old.now
some c =
    let full = eqb-false _ 0 (sym c.is_empty.ensures ∙ c.if-is_empty.false) in
    omega arith

right : (c : After-sought) (strings : List Element) → sofar c.args.old.now ≡ made strings → parsed c.args.old.now ≡ made strings
right c strings e =
    let old = c.args.old.now in
    (tested_made old strings (sym (sofar_tested old (some c)) ∙ e)).strings

comes-to : (c : After-sought) (strings : List Element) → sofar c.args.old.now ≡ made strings → (o : Outcome Element) → sought c.args.identifier strings ≡ o → answer_of (unused_in strings c.args.identifier (length c.args.old.now)) ≡ answer_of (o >>= after c.args.identifier (length c.args.old.now))
comes-to c strings e o is =
    let old = c.args.old.now in
    let x = c.args.identifier in
    ap answer_of (unused_sought x (length old) old strings (some c) e ∙ ap (λ (p : Outcome Element). p >>= after x (length old)) is)

pub returns-in_err-element : goal.returns-in_err-element
returns-in_err-element c =
    let there = (goal.at.returns-in_err-element c).After-sought in
    λ strings e. passed_on _ _ c.from_residual.ensures.1 ∙ sym (comes-to there strings e _ (refused_of_answered _ _ (c.in_err-element.ensures strings (right there strings e))))

pub returns-then-element-identifier : goal.returns-then-element-identifier
returns-then-element-identifier c =
    let there = (goal.at.returns-then-element-identifier c).After-sought in
    λ strings e. sym (comes-to there strings e _ (made_of_answered _ _ (c.in_ok-element.ensures strings (right there strings e))) ∙ rw (eq-eqb _ _ c.if-element-identifier.true))

pub returns : goal.returns
returns c =
    let there = (goal.at.returns c).After-sought in
    λ strings e. ap Ok c.closing_after.ensures ∙ sym (comes-to there strings e _ (made_of_answered _ _ (c.in_ok-element.ensures strings (right there strings e))) ∙ rw (ne_eqb _ _ c.if-element-identifier.false))
