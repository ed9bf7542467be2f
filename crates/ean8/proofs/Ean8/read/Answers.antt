-- `ean8::Ean8::read` meets its contract: its rule is that of every number, at EAN-8's digits.
use Rattle.ean8.specs.Ean8.{reads}
use Rattle.ean8.proofs.Ean8.read.Goals as goal

pub returns : goal.returns
unfolding reads
returns c = c.read.ensures
