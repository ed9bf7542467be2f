-- `calls::symbol_lines::read_list` meets its contract: a named kind has its own reader, and any other list is read by the kind that it has.
use Rattle.std.specs.Prelude.{Option}
use mathlib.Core.Path.{ap}
use lib.ListN.{length}
use Rattle.text.proofs.PutsLaws.{puts_same}
use Rattle.symbols.specs.declared.Kind.{Kind}
use Rattle.calls.specs.Answers.{read_line}
use Rattle.calls.proofs.symbol_lines.read_list.Goals as goal

pub returns-in-Some : goal.returns-in-Some
returns-in-Some c =
    let args = c.args in
    puts_same _ _ _ _ _ (ap (λ (kind : Option Kind). read_line kind args.widths.now (length args.content.now)) c.in-Some.is) c.read_as.ensures

pub returns-in-None : goal.returns-in-None
returns-in-None c =
    let args = c.args in
    puts_same _ _ _ _ _ (ap (λ (kind : Option Kind). read_line kind args.widths.now (length args.content.now)) c.in-None.is) c.read_any.ensures
