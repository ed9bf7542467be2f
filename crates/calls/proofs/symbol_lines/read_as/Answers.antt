-- `calls::symbol_lines::read_as` meets its contract: what the reader left in the lent list is what its rule makes.
use native.Mathlib.Omega.{arith}
use Rattle.answers.specs.declared.Form.TheVariants.{Bytes as AsBytes}
use Rattle.answers.proofs.LineLaws.{made_line_lem, made_shows}
use Rattle.text.proofs.PutsLaws.{puts_same}
use Rattle.calls.proofs.symbol_lines.read_as.Goals as goal

pub put_made-requires : goal.put_made-requires
put_made-requires c =
    let read = c.read_as-answer in
    record { made = made_shows _ _ _ AsBytes _ read.ensures (λ list is. tt); between_in_bounds = omega (arith, read.auto.bytes) }

pub returns : goal.returns
returns c =
    puts_same _ _ _ _ _ (made_line_lem _ _ _ AsBytes _ _ c.read_as-answer.ensures) c.put_made.ensures
