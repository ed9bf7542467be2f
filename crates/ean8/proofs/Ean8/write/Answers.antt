-- `ean8::Ean8::write` meets its contract: its rule is that of every number, at EAN-8's digits.
use Rattle.ean8.specs.Ean8.{writes}
use Rattle.ean8.proofs.Ean8.write.Goals as goal

pub returns : goal.returns
unfolding writes
returns c = c.write.ensures
