-- `symbols::kind_of` meets its contract: its tests are the rule's, in the rule's order.
use mathlib.Core.Path.{sym, ◌∙◌}
use borrow.Author.Tests.{eq-eqb, ne_eqb}
use Rattle.symbols.specs.Kinds.{kind_of}
use Rattle.symbols.proofs.kind_of.Goals as goal

pub returns-then-count-eq-WIDTHS : goal.returns-then-count-eq-WIDTHS
unfolding kind_of
returns-then-count-eq-WIDTHS c =
    simp (eq-eqb _ _ c.if-count-eq-WIDTHS.true)

pub returns-then-widths-eq1 : goal.returns-then-widths-eq1
unfolding kind_of
returns-then-widths-eq1 c =
    simp (ne_eqb _ _ c.if-count-eq-WIDTHS.false, eq-eqb _ _ c.if-count-eq-WIDTHS-2.true, eq-eqb _ _ c.if-widths-eq1.true)

pub returns-then-count-eq-WIDTHS-2 : goal.returns-then-count-eq-WIDTHS-2
unfolding kind_of
returns-then-count-eq-WIDTHS-2 c =
    simp (ne_eqb _ _ c.if-count-eq-WIDTHS.false, eq-eqb _ _ c.if-count-eq-WIDTHS-2.true, ne_eqb _ _ c.if-widths-eq1.false)

pub returns-then-count-eq-WIDTHS-3 : goal.returns-then-count-eq-WIDTHS-3
unfolding kind_of
returns-then-count-eq-WIDTHS-3 c =
    simp (ne_eqb _ _ c.if-count-eq-WIDTHS.false, ne_eqb _ _ c.if-count-eq-WIDTHS-2.false, eq-eqb _ _ c.if-count-eq-WIDTHS-3.true)

pub returns-then-count-eq-WIDTHS-4 : goal.returns-then-count-eq-WIDTHS-4
unfolding kind_of
returns-then-count-eq-WIDTHS-4 c =
    simp (ne_eqb _ _ c.if-count-eq-WIDTHS.false, ne_eqb _ _ c.if-count-eq-WIDTHS-2.false, ne_eqb _ _ c.if-count-eq-WIDTHS-3.false, eq-eqb _ _ c.if-count-eq-WIDTHS-4.true)

pub returns-then-not-permits : goal.returns-then-not-permits
unfolding kind_of
returns-then-not-permits c =
    let permits = sym c.permits.ensures ∙ c.if-not-permits.true in
    simp (ne_eqb _ _ c.if-count-eq-WIDTHS.false, ne_eqb _ _ c.if-count-eq-WIDTHS-2.false, ne_eqb _ _ c.if-count-eq-WIDTHS-3.false, ne_eqb _ _ c.if-count-eq-WIDTHS-4.false, permits)

pub returns : goal.returns
unfolding kind_of
returns c =
    let permits = sym c.permits.ensures ∙ c.if-not-permits.false in
    simp (ne_eqb _ _ c.if-count-eq-WIDTHS.false, ne_eqb _ _ c.if-count-eq-WIDTHS-2.false, ne_eqb _ _ c.if-count-eq-WIDTHS-3.false, ne_eqb _ _ c.if-count-eq-WIDTHS-4.false, permits)
