-- `serving::answer_block` meets its contract: all before the next line is lines that ended; `output` has room for an answer, so where nothing
-- was put no line ends any more, and where something was, the next line begins later.
use Rattle.std.proofs.Common.{◌∙◌, arith, length}
use Rattle.text.proofs.PutsLaws.{puts_within}
use Rattle.serving.proofs.BlockLaws.{answered_moves, none_ends, cut_more}
use Rattle.serving.proofs.answer_block.Goals as goal

pub loop-done-smaller : goal.loop-done-smaller
loop-done-smaller g c =
    let loop = c.loop-done in
    let done = c.answer_lines-done-in-loop-done in
    omega (arith, answered_moves _ _ loop.done.next _ done.result.next done.result.put done.new.out done.ensures.answered (omega arith) (omega arith))

pub loop-done-preserved : goal.loop-done-preserved
loop-done-preserved g c =
    let loop = c.loop-done in
    let done = c.answer_lines-done-in-loop-done in (
      done.auto.out ∙ loop.invariant.0,
      loop.invariant.1,
      done.ensures.from_le_next.1,
      rw done.auto.out (puts_within _ _ done.result.put done.new.out done.ensures.answered.puts done.auto.out),
      cut_more _ _ loop.done.next loop.output done.result.next done.result.put done.new.out loop.invariant.4 done.ensures.answered,
      none_ends _ (length loop.output) done.result.put (omega arith) done.ensures.line,
    )
