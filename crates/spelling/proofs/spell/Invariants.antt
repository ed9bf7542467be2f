use Rattle.std.proofs.Common.{◌-◌, ◌≤◌, length}
use Rattle.spelling.specs.Best.{best_spelling}
use Rattle.spelling.proofs.ForwardLaws.{Written}
use Rattle.spelling.proofs.spell.Given as goal

abbrev pub invariant-loop-i : goal.invariant-loop-i
invariant-loop-i l =
    (l.i ≤ length l.message) × Written (best_spelling l.message) l.initial.values l.message l.c l.i l.n l.values

abbrev pub decreases-loop-i : goal.decreases-loop-i
decreases-loop-i l = length (best_spelling l.message) - l.n
