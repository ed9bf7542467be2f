-- `code128::characters::pattern_of` meets its contract: a pattern's number holds its widths, a byte each.
use Rattle.std.proofs.Common.{◌∙◌}
use Rattle.code128.proofs.MatchingLaws.{packed_at, pattern_unpacked}
use Rattle.code128.proofs.characters.pattern_of.Goals as goal

pub returns : goal.returns
returns c =
    let value = c.args.value in
    rw (c.to_le_bytes.ensures, c.packed_of.ensures ∙ packed_at value c.requires) (pattern_unpacked value c.requires)
