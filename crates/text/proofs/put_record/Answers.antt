-- `text::put_record` meets its contract: a space, two numbers and a colon stand at the front, and the third number after them.
use mathlib.Core.List.{[]}
use native.Mathlib.Omega.{arith}
use Rattle.text.proofs.PutsLaws.{puts_none, puts_more, puts_then}
use Rattle.text.proofs.put_record.Goals as goal

pub returns : goal.returns
returns c =
    let out = c.args.out.now in
    let first = c.put_apart-at in
    let last = c.put_number in
    let space = puts_more [] out 0 out 32 (omega arith) (puts_none out) in
    let two-numbers = puts_then _ _ _ _ _ _ _ space first.ensures.puts in
    let colon = puts_more _ _ _ _ 58 (omega (arith, first.ensures.upper_bound)) two-numbers in
    record { puts = puts_then _ _ _ _ _ _ _ colon last.ensures.puts; upper_bound = omega (arith, first.ensures.upper_bound, last.ensures.upper_bound) }
