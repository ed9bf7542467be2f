use Rattle.std.proofs.Common.{◌≡◌, ℕ, ◌<◌, ◌≤◌, length, get_or, drop}
use Rattle.spelling.specs.States.{state_of}
use Rattle.spelling.proofs.plan.Given as goal

abbrev pub invariant-loop-i : goal.invariant-loop-i
invariant-loop-i l =
    (l.state ≡ state_of (drop l.i l.message)) × ((k : ℕ) → l.i ≤ k → k < length l.message → get_or l.states k 0 ≡ state_of (drop k l.message))
