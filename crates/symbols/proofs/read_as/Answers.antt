-- `symbols::read_as` meets its promise: the rule of a kind is that of the kind's own reader.
use Rattle.symbols.specs.declared.Kind.TheVariants.{Ean13, Ean8, UpcE, Itf14, Gs1128}
use Rattle.symbols.specs.Kinds.{reads_as}
use Rattle.symbols.proofs.ByKind.{fills_for_kind}
use Rattle.symbols.proofs.read_as.Goals as goal

pub returns-in-Ean13 : goal.returns-in-Ean13
unfolding reads_as
returns-in-Ean13 c =
    fills_for_kind reads_as _ Ean13 _ _ _ _ _ c.in-Ean13.is c.read.ensures

pub returns-in-Ean8 : goal.returns-in-Ean8
unfolding reads_as
returns-in-Ean8 c =
    fills_for_kind reads_as _ Ean8 _ _ _ _ _ c.in-Ean8.is c.read-in-Ean8.ensures

pub returns-in-UpcE : goal.returns-in-UpcE
unfolding reads_as
returns-in-UpcE c =
    fills_for_kind reads_as _ UpcE _ _ _ _ _ c.in-UpcE.is c.read-in-UpcE.ensures

pub returns-in-Itf14 : goal.returns-in-Itf14
unfolding reads_as
returns-in-Itf14 c =
    fills_for_kind reads_as _ Itf14 _ _ _ _ _ c.in-Itf14.is c.read-in-Itf14.ensures

pub returns-in-Gs1128 : goal.returns-in-Gs1128
unfolding reads_as
returns-in-Gs1128 c =
    fills_for_kind reads_as _ Gs1128 _ _ _ _ _ c.in-Gs1128.is c.read-in-Gs1128.ensures
