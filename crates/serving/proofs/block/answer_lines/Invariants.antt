use Rattle.std.proofs.Common.{◌≡◌, ◌+◌, ◌-◌, ◌≤◌, length, drop}
use Rattle.laws.specs.First.{first_not}
use Rattle.lines.specs.Cut.{other_than}
use Rattle.serving.specs.Block.{Answered}
use Rattle.serving.proofs.block.answer_lines.Given as goal

abbrev pub invariant-loop-end : goal.invariant-loop-end
invariant-loop-end g l =
    (l.from ≤ l.next)
    × (l.next ≤ l.end)
    × (l.end ≤ length l.block)
    × (l.put ≤ length l.out)
    × (length l.out ≡ length l.initial.out)
    × (l.end ≡ l.next + first_not (other_than 10) (drop l.next l.block))
    × Answered g.A.Answerer.line_answer l.block l.from l.initial.out l.next l.put l.out

abbrev pub decreases-loop-end : goal.decreases-loop-end
decreases-loop-end g l =
    length l.block - l.end
