-- `itf14::Itf14::read` meets its contract: its rule is that of every number, at ITF-14's digits.
use Rattle.itf14.specs.Itf14.{reads}
use Rattle.itf14.proofs.Itf14.read.Goals as goal

pub returns : goal.returns
unfolding reads
returns c = c.read.ensures
