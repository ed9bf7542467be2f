-- `answers::put_numbers` meets its contract: the two numbers, and byte 10 after them.
use native.Mathlib.Omega.{arith}
use Rattle.text.proofs.PutsLaws.{puts_more}
use Rattle.answers.proofs.put_numbers.Goals as goal

pub returns : goal.returns
returns c =
    puts_more _ _ _ _ 10 (omega arith) c.put_pair-at.ensures.puts
