use Rattle.std.proofs.Common.{◌≡◌, ◌++◌, length, take, drop}
use Rattle.text.specs.Widths.{run_together}
use Rattle.text.proofs.widths.put_widths.Given as goal

abbrev pub invariant-loop-i : goal.invariant-loop-i
invariant-loop-i l =
    (length l.out ≡ length l.initial.out) × (l.out ≡ take l.i (run_together l.widths) ++ drop l.i l.initial.out)
