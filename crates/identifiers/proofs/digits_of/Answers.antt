-- `identifiers::digits_of` meets its contract: the tests are those of the spelling.
use borrow.Author.Tests.{lt-ltb, le-ltb}
use Rattle.identifiers.specs.Identifiers.{spelled}
use Rattle.identifiers.proofs.digits_of.Goals as goal

pub returns-then-identifier-lt100 : goal.returns-then-identifier-lt100
unfolding spelled
returns-then-identifier-lt100 c =
    simp (lt-ltb _ _ c.if-identifier-lt100.true)

pub returns-then-identifier-lt1000 : goal.returns-then-identifier-lt1000
unfolding spelled
returns-then-identifier-lt1000 c =
    simp (le-ltb _ _ c.if-identifier-lt100.false, lt-ltb _ _ c.if-identifier-lt1000.true)

pub returns : goal.returns
unfolding spelled
returns c =
    simp (le-ltb _ _ c.if-identifier-lt100.false, le-ltb _ _ c.if-identifier-lt1000.false)
