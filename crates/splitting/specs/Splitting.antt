-- Document 01: "Splitting writes one record for each element string in the caller's list: identifier, where its data begins, how long it is.
-- Twelve records always suffice." The test of the whole message comes first (1, 2, 9, 10, 11), then the room (12).
use Rattle.std.specs.Prelude.{ℕ, List, map, take, drop}
use Rattle.refusal.specs.Outcome.{Outcome, ◌>>=◌}
use Rattle.refusal.specs.Fills.{laying}
use Rattle.elements.specs.declared.Element.{Element}
use Rattle.splitting.specs.declared.Record.{Record}
use Rattle.elements.specs.Strings.{tested}
use Rattle.elements.specs.Messages.{ElementString}

-- the record of an element string: the one place that says what a record holds
abbrev pub record_of : Element → Record
record_of string = record { identifier = string.identifier; begin = string.begin; length = string.length }

unfoldable pub splits : List ℕ → ℕ → Outcome (List Record)
splits message room = do
  strings ← tested message
  laying (map record_of strings) room

-- the element string that a record of a message stands for: its data are the message's own bytes
abbrev pub string_in : List ℕ → Record → ElementString
string_in message r = record { identifier = r.identifier; content = take r.length (drop r.begin message) }
