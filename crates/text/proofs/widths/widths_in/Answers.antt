-- `text::widths::widths_in` meets its contract: a text with a space in it has one at the rule's place and a text without one has none, and
-- each of the two that it calls promises its own case.
use Rattle.std.proofs.Common.{length, true≢false, eq-eqb, ne_eqb, sym, ap, ◌∙◌, not, arith}
use Rattle.laws.specs.First.{first_not}
use Rattle.laws.proofs.FirstLaws.{pass_all, pass_before}
use Rattle.lines.specs.Cut.{other_than}
use Rattle.text.specs.Widths.{widths_in}
use Rattle.text.proofs.widths.widths_in.Goals as goal

pub returns-then-contains : goal.returns-then-contains
unfolding widths_in
returns-then-contains c =
    let typed = c.args.typed.now in
    let (i, within, space) = c.if-contains.ensures.cases in
    let fails = ap not (space 0) in
    rw (ne_eqb (first_not (other_than 32) typed) (length typed) (λ same. true≢false (sym (pass_before (other_than 32) typed i 0 (omega arith)) ∙ fails))) c.numbers_in.ensures

pub returns-else-contains : goal.returns-else-contains
unfolding widths_in
returns-else-contains c =
    let typed = c.args.typed.now in
    let none = pass_all (other_than 32) typed 0 (λ i h. ap not (c.if-contains.ensures.cases i 0 (omega arith) h)) in
    rw (eq-eqb (first_not (other_than 32) typed) (length typed) none) c.digits_in.ensures
