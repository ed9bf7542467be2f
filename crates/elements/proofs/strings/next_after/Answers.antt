-- `elements::strings::next_after` meets its contract: the test is the definition's.
use Rattle.elements.specs.Strings.{next_after}
use Rattle.elements.proofs.strings.next_after.Goals as goal

pub returns-then-kind : goal.returns-then-kind
unfolding next_after
returns-then-kind c =
    rw c.if-kind.true

pub returns-else-kind : goal.returns-else-kind
unfolding next_after
returns-else-kind c =
    rw c.if-kind.false
