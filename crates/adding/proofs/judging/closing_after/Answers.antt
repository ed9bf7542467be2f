-- `adding::judging::closing_after` meets its contract: the row tells the kind, and the kind whether a separator follows.
use mathlib.Core.Path.{sym, ◌∙◌}
use Rattle.identifiers.proofs.RowLaws.{kind_of_row, no_kind_of_row}
use Rattle.elements.specs.Messages.{closing}
use Rattle.adding.proofs.judging.closing_after.Goals as goal

pub returns-in_default : goal.returns-in_default
unfolding closing
returns-in_default c =
    rw (no_kind_of_row _ (sym c.row_of.ensures ∙ c.in_default.is))

pub returns-then-kind : goal.returns-then-kind
unfolding closing
returns-then-kind c =
    rw ((kind_of_row _ _ _ (sym c.row_of.ensures ∙ c.in-Some.is)).1, c.if-kind.true)

pub returns-else-kind : goal.returns-else-kind
unfolding closing
returns-else-kind c =
    rw ((kind_of_row _ _ _ (sym c.row_of.ensures ∙ c.in-Some.is)).1, c.if-kind.false)
