-- `calls::symbol_lines::read_any` meets its contract: the list's kind is named, and it is read as that; or the naming refuses.
use Prim.Native.Nat.{ℕ}
use mathlib.Core.Path.{sym, ap, ◌∙◌}
use mathlib.Core.List.{List}
use lib.ListN.{length}
use Rattle.answers.specs.declared.Form.TheVariants.{Bytes as AsBytes}
use Rattle.answers.specs.Lines.{line_of}
use Rattle.symbols.specs.Kinds.{reads_as}
use Rattle.symbols.proofs.Theorems.{refused_if_unnamed}
use Rattle.refusal.proofs.FillsLaws.{refused_of_answered, made_of_answered}
use Rattle.text.proofs.PutsLaws.{puts_same}
use Rattle.calls.specs.Answers.{named_line}
use Rattle.calls.proofs.NamedLaws.{named_line_lem}
use Rattle.calls.proofs.symbol_lines.read_any.Goals as goal

pub returns-in-Ok : goal.returns-in-Ok
returns-in-Ok c =
    let widths = c.args.widths.now in
    let room = length c.args.content.now in
    let named = made_of_answered _ c.in-Ok.kind (sym c.in-Ok.is ∙ c.kind_of.ensures) in
    let between = ap (λ (between : List ℕ). line_of AsBytes between (reads_as c.in-Ok.kind widths room)) (sym c.name_of.ensures) in
    puts_same _ _ _ _ _ (named_line_lem widths room c.in-Ok.kind named ∙ between) c.read_as.ensures

pub returns-in-Err : goal.returns-in-Err
returns-in-Err c =
    let widths = c.args.widths.now in
    let room = length c.args.content.now in
    let unnamed = refused_of_answered _ c.in-Err.refusal (sym c.in-Err.is ∙ c.kind_of.ensures) in
    puts_same _ _ _ _ _ (ap named_line (refused_if_unnamed widths room c.in-Err.refusal unnamed)) c.put_answer.ensures
