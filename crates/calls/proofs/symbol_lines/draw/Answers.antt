-- `calls::symbol_lines::draw` meets its contract: what the writer left in the lent list is what its rule makes, widths of one digit each.
use native.Mathlib.Omega.{arith}
use Rattle.answers.specs.declared.Form.TheVariants.{Widths as AsWidths}
use Rattle.answers.proofs.LineLaws.{made_line_lem, made_shows}
use Rattle.symbols.proofs.WrittenLaws.{written_below}
use Rattle.text.proofs.PutsLaws.{puts_same}
use Rattle.calls.proofs.symbol_lines.draw.Goals as goal

pub put_made-requires : goal.put_made-requires
put_made-requires c =
    record { made = made_shows _ _ _ AsWidths _ c.write_as-answer.ensures (written_below _ _ _); between_in_bounds = omega (arith, c.write_as-answer.auto.widths) }

pub returns : goal.returns
returns c =
    puts_same _ _ _ _ _ (made_line_lem _ _ _ AsWidths _ _ c.write_as-answer.ensures) c.put_made.ensures
