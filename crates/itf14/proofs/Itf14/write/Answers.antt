-- `itf14::Itf14::write` meets its contract: its rule is that of every number, at ITF-14's digits.
use Rattle.itf14.specs.Itf14.{writes}
use Rattle.itf14.proofs.Itf14.write.Goals as goal

pub returns : goal.returns
unfolding writes
returns c = c.write.ensures
