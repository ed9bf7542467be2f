-- `upc_e::condensing::expanded` meets its contract: the arms are the definition's cases.
use Rattle.std.proofs.Common.{sym}
use native.Mathlib.Omega.{arith}
use Rattle.upc_e.specs.Condensing.{expanded}
use Rattle.upc_e.proofs.CondensingLaws.{by_two, by_three, by_four, by_more}
use Rattle.upc_e.proofs.condensing.expanded.Goals as goal

pub returns-in-0-to-2 : goal.returns-in-0-to-2
unfolding expanded
returns-in-0-to-2 c = sym (by_two _ _ _ _ _ _ _ (omega arith))

pub returns-in-3 : goal.returns-in-3
unfolding expanded
returns-in-3 c = sym (by_three _ _ _ _ _ _ _ c.in-3.is)

pub returns-in-4 : goal.returns-in-4
unfolding expanded
returns-in-4 c = sym (by_four _ _ _ _ _ _ _ c.in-4.is)

pub returns-in_default : goal.returns-in_default
unfolding expanded
returns-in_default c = sym (by_more _ _ _ _ _ _ _ (omega arith))
