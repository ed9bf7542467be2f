-- `ean13::Ean13::read` meets its contract: its rule is that of every number, at EAN-13's digits.
use Rattle.ean13.specs.Ean13.{reads}
use Rattle.ean13.proofs.Ean13.read.Goals as goal

pub returns : goal.returns
unfolding reads
returns c = c.read.ensures
