-- `answers::put_answer` meets its contract: an answer is a number, or a refusal's number and place.
use mathlib.Core.Path.{ap}
use Rattle.text.proofs.PutsLaws.{puts_same}
use Rattle.answers.specs.Lines.{answer_line}
use Rattle.answers.proofs.put_answer.Goals as goal

pub returns-in-Ok : goal.returns-in-Ok
returns-in-Ok c =
    puts_same _ _ _ _ _ (ap answer_line c.in-Ok.is) c.put_numbers.ensures

pub returns-in-Err : goal.returns-in-Err
returns-in-Err c =
    let told = c.in-Err.is in
    puts_same _ _ _ _ _ (ap answer_line told) (rw (← c.number.ensures, ← c.place.ensures) c.put_numbers-in-Err.ensures)
