use Rattle.std.proofs.Common.{◌≡◌, ◌≤◌, ◌+◌, ◌*◌, drop}
use Rattle.code128.specs.Check.{placed}
use Rattle.code128.proofs.check.check_of.Given as goal

abbrev pub invariant-loop-i : goal.invariant-loop-i
invariant-loop-i l = (l.sum + placed (l.i + 1) (drop l.i l.values) ≡ l.start + placed 1 l.values) × (l.sum ≤ l.start + 26010 * l.i)
