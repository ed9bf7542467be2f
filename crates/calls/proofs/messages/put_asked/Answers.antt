-- `calls::messages::put_asked` meets its contract: where the companion call answers a length, the part that is handed back is the data.
use mathlib.Core.Path.{sym, ap, ◌∙◌}
use mathlib.Core.List.{[], ◌∷◌}
use native.Mathlib.Omega.{arith}
use lib.ListN.{length}
use Rattle.text.proofs.PutsLaws.{puts_same}
use Rattle.answers.specs.declared.Form.TheVariants.{Bytes as AsBytes}
use Rattle.answers.specs.Lines.{answer_line, counted_line, list_line}
use Rattle.asking.specs.Asking.{asked}
use Rattle.calls.proofs.AskLaws.{part_short, data_found, data_refused}
use Rattle.calls.proofs.messages.put_asked.Goals as goal

pub returns-in_default : goal.returns-in_default
returns-in_default c =
    let told = c.in_default.is in
    let none = data_refused _ (asked _ _) _ (sym told ∙ c.asked-answer.ensures) in
    puts_same _ _ _ _ _ (ap (list_line AsBytes) none ∙ sym (ap answer_line told)) c.put_answer.ensures

pub put_counted-requires : goal.put_counted-requires
put_counted-requires c =
    let message = c.args.message.now in
    record { shows = tt; between_in_bounds = omega (arith, ap length c.ask.ensures, part_short message c.args.identifier) }

pub returns : goal.returns
returns c =
    let message = c.args.message.now in
    let found = data_found message (asked _ _) _ (sym c.in-Ok.is ∙ c.asked-answer.ensures) in
    let part = ap (counted_line AsBytes (32 ∷ [])) (sym c.ask.ensures) in
    puts_same _ _ _ _ _ (ap (list_line AsBytes) found ∙ part) c.put_counted.ensures
