-- `asking::find` meets its contract: the test tells whether there are strings to look among, and the walk along them stops at the string of
-- the identifier, or at one that has another.
use mathlib.Core.Path.{◌≡◌, sym, ap, ◌∙◌}
use mathlib.Core.List.{List}
use borrow.Author.Tests.{eq-eqb, ne_eqb}
use Rattle.laws.proofs.Results.{passed_on}
use Rattle.refusal.specs.Fills.{answered}
use Rattle.refusal.specs.Outcome.{Outcome, made, ◌>>=◌}
use Rattle.refusal.proofs.FillsLaws.{refused_of_answer, made_of_answer, refused_of_answered, made_of_answered}
use Rattle.elements.specs.declared.Element.{Element}
use Rattle.elements.specs.Strings.{parsed, tested}
use Rattle.elements.specs.Found.{sought}
use Rattle.elements.proofs.FromRule.{tested_made}
use Rattle.asking.specs.Asking.{asked}
use Rattle.asking.proofs.AskLaws.{checked, asked_refused, asked_sought}
use Rattle.asking.proofs.find.Goals.{After-sought}
use Rattle.asking.proofs.find.Goals as goal

pub returns-in_err-test : goal.returns-in_err-test
returns-in_err-test c =
    let message = c.args.message.now in
    let wrong = refused_of_answer (tested message) _ c.in_err-test.ensures in
    passed_on _ _ c.from_residual.ensures.1 ∙ sym (ap answered (asked_refused message c.args.identifier _ wrong))

right : (c : After-sought) → (strings : List Element) × (tested c.args.message.now ≡ made strings) × (parsed c.args.message.now ≡ made strings)
right c =
    let message = c.args.message.now in
    let m = made_of_answer (tested message) _ c.in_ok-test.ensures in
    (m.0, m.1, (tested_made message m.0 m.1).strings)

comes-to : (c : After-sought) → (o : Outcome Element) → sought c.args.identifier (right c).0 ≡ o → answered (asked c.args.message.now c.args.identifier) ≡ answered (o >>= checked c.args.identifier)
comes-to c o is =
    let x = c.args.identifier in
    ap answered (asked_sought c.args.message.now x (right c).0 (right c).1 ∙ ap (λ (p : Outcome Element). p >>= checked x) is)

pub returns-in_err-element : goal.returns-in_err-element
returns-in_err-element c =
    let there = (goal.at.returns-in_err-element c).After-sought in
    let strings = right there in
    passed_on _ _ c.from_residual-in_err-element.ensures.1
    ∙ sym (comes-to there _ (refused_of_answered _ _ (c.in_err-element.ensures strings.0 strings.2)))

pub returns-then-element-identifier : goal.returns-then-element-identifier
returns-then-element-identifier c =
    let there = (goal.at.returns-then-element-identifier c).After-sought in
    let strings = right there in
    sym (comes-to there _ (made_of_answered _ _ (c.in_ok-element.ensures strings.0 strings.2)) ∙ rw (ne_eqb _ _ c.if-element-identifier.true))

pub returns : goal.returns
returns c =
    let there = (goal.at.returns c).After-sought in
    let strings = right there in
    sym (comes-to there _ (made_of_answered _ _ (c.in_ok-element.ensures strings.0 strings.2)) ∙ rw (eq-eqb _ _ c.if-element-identifier.false))
