-- After i turns the records of i strings are stored, and the walk goes on along the others.
use Rattle.std.proofs.Common.{◌≡◌, List}
use Rattle.refusal.specs.Outcome.{made}
use Rattle.elements.specs.declared.Element.{Element}
use Rattle.elements.specs.Strings.{tested}
use Rattle.splitting.proofs.SplitLaws.{Turn}
use Rattle.splitting.proofs.split.Given as goal

abbrev pub invariant-loop-record : goal.invariant-loop-record
invariant-loop-record l =
    (strings : List Element) → tested l.message ≡ made strings → Turn l.message l.initial.record-items strings l.record-index l.at l.record-items
