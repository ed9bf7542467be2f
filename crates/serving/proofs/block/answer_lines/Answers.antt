-- `serving::block::answer_lines` meets its contract: the lines so far are answered, and `end` is where the next one ends; the loop stops where
-- none ends in the block, or where there is no room for certain.
use Rattle.std.proofs.Common.{refl, ◌∙◌, ◌-◌, arith, length}
use borrow.Rule.Slice.PartMut.{same_len_mid}
use Rattle.serving.proofs.BlockLaws.{answered_none, answered_more, room_left}
use Rattle.serving.proofs.block.answer_lines.Goals as goal

pub loop-end-init : goal.loop-end-init
loop-end-init g c =
    (omega arith, omega arith, omega arith, omega arith, refl, c.line_end-end.ensures.value, answered_none _ _ _ _)

pub loop-end-preserved : goal.loop-end-preserved
loop-end-preserved g c =
    let loop = c.loop-end in
    let args = c.args in
    let answer = c.answer-put in
    let fits = room_left _ loop.out loop.put answer.result answer.new.out (omega arith) answer.ensures answer.auto.out in
    let same = same_len_mid loop.put (length loop.out - loop.put) loop.out answer.new.out answer.auto.out in (
      omega arith,
      omega (arith, c.line_end-end-in-loop-end.ensures.value),
      c.line_end-end-in-loop-end.ensures.upper_bound,
      rw same fits,
      same ∙ loop.invariant.4,
      c.line_end-end-in-loop-end.ensures.value,
      answered_more g.A.Answerer.line_answer args.block.now args.from args.out.now loop.next loop.put loop.out loop.end loop.invariant.5 (omega arith) answer.result answer.new.out loop.invariant.6 answer.ensures,
    )
