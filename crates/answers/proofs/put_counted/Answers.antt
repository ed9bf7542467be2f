-- `answers::put_counted` meets its contract: 0 and the count stand at the front, the text between after them, then the list, and byte 10.
use native.Mathlib.Omega.{arith}
use Rattle.text.proofs.PutsLaws.{puts_more, puts_then}
use Rattle.answers.proofs.put_counted.Goals as goal

pub returns : goal.returns
returns c =
    let first = c.put_pair-at in
    let second = c.put_text in
    let third = c.put_list in
    let two = puts_then _ _ _ _ _ _ _ first.ensures.puts second.ensures in
    puts_more _ _ _ _ 10 (omega (arith, first.ensures.upper_bound, second.ensures.count, third.ensures.value)) (puts_then _ _ _ _ _ _ _ two third.ensures.puts)
