-- `itf14::scanning::wide` meets its contract: each `return` has the test of the definition behind it.
use borrow.Author.Tests.{eq-eqb, ne_eqb}
use Rattle.itf14.specs.Candidates.{wide_of}
use Rattle.itf14.proofs.scanning.wide.Goals as goal

pub returns-then-width-eq-WIDE-clause-value : goal.returns-then-width-eq-WIDE-clause-value
unfolding wide_of
returns-then-width-eq-WIDE-clause-value c = simp (eq-eqb _ _ c.if-width-eq-WIDE.true)

pub returns-else-width-eq-WIDE-clause-value : goal.returns-else-width-eq-WIDE-clause-value
unfolding wide_of
returns-else-width-eq-WIDE-clause-value c = simp (ne_eqb _ _ c.if-width-eq-WIDE.false)
