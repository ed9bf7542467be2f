use Prim.Native.Nat.{suc, ◌-◌, ◌*◌, ◌≤◌}
use mathlib.Core.Path.{◌≡◌}
use lib.ListN.{length, take}
use Rattle.refusal.specs.Fills.{answer_of}
use Rattle.elements.specs.Strings.{strings_from, parsed}
use Rattle.elements.proofs.CountLaws.{counted}
use Rattle.elements.proofs.messages.count.Given as goal

abbrev pub invariant-loop-element : goal.invariant-loop-element
invariant-loop-element l =
    (l.at ≤ length l.message)
    × (4 * l.count ≤ l.at)
    × (length l.used ≡ 12)
    × (answer_of (parsed l.message) ≡ counted l.count (strings_from (suc (length l.message) - l.count) l.message l.at (take l.count l.used)))

abbrev pub decreases-loop-element : goal.decreases-loop-element
decreases-loop-element l =
    length l.message - l.at
