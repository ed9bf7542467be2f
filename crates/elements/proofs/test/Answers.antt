-- `elements::test` meets its contract: the tests that led to each `return` are those of the rule's lines.
use Rattle.std.proofs.Common.{ℕ, Err, ◌≡◌, length, sym, ap, ◌∙◌, arith, rules}
use mathlib.Core.Bool.{◌&&◌}
use lib.Dec.{leb}
use borrow.Author.Tests.{eq-eqb, ne_eqb}
use Rattle.laws.specs.First.{first_not}
use Rattle.laws.proofs.FirstLaws.{first_found, none_found}
use Rattle.laws.proofs.Ranges.{range_has}
use Rattle.refusal.specs.declared.Refusal.TheVariants.{Character}
use Rattle.character_set_82.specs.Characters.{is_message_byte}
use Rattle.elements.specs.Strings.{tested}
use Rattle.elements.proofs.test.Goals.{After-contains}
use Rattle.elements.proofs.test.Goals as goal

sizes : (c : After-contains) → c.contains.result ≡ (leb 1 (length c.args.message.now) && leb (length c.args.message.now) 48)
sizes c =
    c.contains.ensures.value ∙ range_has _ 1 48 (length c.args.message.now) c.new.ensures.start c.new.ensures.end c.new.ensures.exhausted

pub returns-then-not-contains : goal.returns-then-not-contains
unfolding tested
returns-then-not-contains c =
    rw (sym (sizes (goal.at.returns-then-not-contains c).After-contains) ∙ c.if-not-contains.true)

pub returns-in-Some : goal.returns-in-Some
unfolding tested
returns-in-Some c =
    let message = c.args.message.now in
    let right = sym (sizes (goal.at.returns-in-Some c).After-contains) ∙ c.if-not-contains.false in
    let found = first_found is_message_byte message 0 c.position.result c.in-Some.place (search rules) c.in-Some.is in
    simp (right, ne_eqb (first_not is_message_byte message) (length message) (omega arith))
    (ap (λ (p : ℕ). Err (Character p)) (sym found.0))

pub returns : goal.returns
unfolding tested
returns c =
    let message = c.args.message.now in
    let right = sym (sizes (goal.at.returns c).After-contains) ∙ c.if-not-contains.false in
    let all = none_found is_message_byte message 0 c.position.result (search rules) c.in_default.is in
    simp (right, eq-eqb (first_not is_message_byte message) (length message) all)
    c.count.ensures
