use Rattle.std.proofs.Common.{◌≡◌, ◌++◌, map, length, take, drop}
use Rattle.text.specs.Typed.{replacing}
use Rattle.text.proofs.typed.put_replacing.Given as goal

abbrev pub invariant-loop-i : goal.invariant-loop-i
invariant-loop-i l =
    (length l.out ≡ length l.initial.out) × (l.out ≡ take l.i (map (replacing l.old l.new) l.bytes) ++ drop l.i l.initial.out)
