-- `ean13::Ean13::write` meets its contract: its rule is that of every number, at EAN-13's digits.
use Rattle.ean13.specs.Ean13.{writes}
use Rattle.ean13.proofs.Ean13.write.Goals as goal

pub returns : goal.returns
unfolding writes
returns c = c.write.ensures
