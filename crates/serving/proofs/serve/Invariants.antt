-- `serving::serve` is safe and ends: a block lies within the input, and each has fewer left than the one before.
use Rattle.std.proofs.Common.{ℕ, ◌≡◌, ◌+◌, ◌≤◌, length}
use Rattle.blocks.specs.declared.Taken.{Taken}
use Rattle.blocks.specs.declared.Taken.TheVariants.{More, Last, End}
use Rattle.blocks.specs.Blocks.{filled, IfBlock}
use Rattle.serving.proofs.serve.Given as goal

abbrev pub invariant-loop-taken : goal.invariant-loop-taken
invariant-loop-taken g l =
    IfBlock l.taken (λ block. filled block ≤ length l.input)
    × (length l.input ≡ length l.initial.input)
    × (length l.output ≡ length l.initial.output)

-- how many turns there may be at the most
abbrev turns : Taken → ℕ
turns (More block) = block.left + 1
turns (Last block) = block.left + 1
turns End = 0

abbrev pub decreases-loop-taken : goal.decreases-loop-taken
decreases-loop-taken g l =
    turns l.taken
