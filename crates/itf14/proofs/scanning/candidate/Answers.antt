-- `itf14::scanning::candidate` meets its contract: each `return` has the test of the definition behind it.
use borrow.Author.Tests.{lt-ltb, le-ltb}
use Rattle.itf14.specs.Candidates.{candidate_at}
use Rattle.itf14.proofs.scanning.candidate.Goals as goal

pub returns-then-weight-lt10-clause-value : goal.returns-then-weight-lt10-clause-value
unfolding candidate_at
returns-then-weight-lt10-clause-value c = rw (← c.weight-weight.ensures, lt-ltb _ 10 c.if-weight-lt10.true)

pub returns-else-weight-lt10-clause-value : goal.returns-else-weight-lt10-clause-value
unfolding candidate_at
returns-else-weight-lt10-clause-value c = rw (← c.weight-weight.ensures, le-ltb _ 10 c.if-weight-lt10.false)
