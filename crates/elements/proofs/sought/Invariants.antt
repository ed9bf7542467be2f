use Prim.Native.Nat.{◌-◌, ◌≤◌}
use mathlib.Core.Path.{◌≡◌}
use mathlib.Core.List.{List}
use lib.ListN.{length}
use Rattle.refusal.specs.Outcome.{made}
use Rattle.elements.specs.declared.Element.{Element}
use Rattle.elements.specs.Strings.{parsed}
use Rattle.elements.proofs.WalkLaws.{Left}
use Rattle.elements.proofs.sought.Given as goal

abbrev pub invariant-loop-element : goal.invariant-loop-element
invariant-loop-element l =
    (l.at ≤ length l.message) × ((strings : List Element) → parsed l.message ≡ made strings → Left l.message l.identifier l.at strings)

abbrev pub decreases-loop-element : goal.decreases-loop-element
decreases-loop-element l =
    length l.message - l.at
