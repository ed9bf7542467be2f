-- `text::put_apart` meets its contract: the first number and the byte stand at the front, and the second number after them.
use native.Mathlib.Omega.{arith}
use Rattle.text.proofs.PutsLaws.{puts_more, puts_then}
use Rattle.text.proofs.put_apart.Goals as goal

pub returns : goal.returns
returns c =
    let first = c.put_number-at in
    record { puts = puts_then _ _ _ _ _ _ _ (puts_more _ _ _ _ _ (omega arith) first.ensures.puts) c.put_number.ensures.puts; upper_bound = omega arith }
