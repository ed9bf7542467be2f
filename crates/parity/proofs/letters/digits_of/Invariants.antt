use Rattle.std.proofs.Common.{◌≡◌, ◌%◌, ◌++◌, map, length, take, drop}
use Rattle.parity.proofs.letters.digits_of.Given as goal

abbrev pub invariant-loop-i : goal.invariant-loop-i
invariant-loop-i l =
    (length l.digits ≡ length l.initial.digits) × (l.digits ≡ take l.i (map (λ v. v % 10) l.values) ++ drop l.i l.initial.digits)
