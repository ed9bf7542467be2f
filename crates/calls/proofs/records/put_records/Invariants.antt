use Rattle.std.proofs.Common.{ℕ, ◌+◌, ◌*◌, ◌≤◌, List, ◌++◌, take}
use Rattle.text.specs.Puts.{Puts}
use Rattle.calls.specs.Answers.{record_texts}
use Rattle.calls.proofs.records.put_records.Given as goal

abbrev pub invariant-loop-record : goal.invariant-loop-record
invariant-loop-record l =
    (l.at ≤ 41 + l.record-index * 63)
    × ((front before : List ℕ) → Puts front before l.initial.at l.initial.out → Puts (front ++ record_texts (take l.record-index l.records)) before l.at l.out)
