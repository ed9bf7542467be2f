use Rattle.std.proofs.Common.{◌≡◌, ◌+◌, ◌-◌, ◌*◌, ◌≤◌, min, length, drop}
use Rattle.serving.specs.Block.{IsLine, Cut}
use Rattle.serving.proofs.answer_block.Given as goal

abbrev pub invariant-loop-done : goal.invariant-loop-done
invariant-loop-done g l =
    (length l.output ≡ length l.initial.output)
    × (g.A.Answerer.LONGEST ≤ length l.initial.output)
    × (l.done.next ≤ length l.block)
    × (l.done.put ≤ length l.output)
    × Cut l.block l.done.next
    × (l.done.put ≡ 0 → IsLine (drop l.done.next l.block))

-- the bytes that are left, each counted twice, and whether something was put
abbrev pub decreases-loop-done : goal.decreases-loop-done
decreases-loop-done g l =
    2 * (length l.block - l.done.next) + min 1 l.done.put
