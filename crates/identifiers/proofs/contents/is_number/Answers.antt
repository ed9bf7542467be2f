-- `identifiers::contents::is_number` meets its contract: the test of a number with its own count passes exactly those.
use Rattle.std.proofs.Common.{is_ok, ap, ◌∙◌}
use Rattle.identifiers.proofs.DataLaws.{number_passes}
use Rattle.identifiers.proofs.contents.is_number.Goals as goal

pub returns : goal.returns
returns c =
    c.is_ok.ensures.value ∙ ap is_ok c.right_number.ensures ∙ number_passes c.args.bytes.now
