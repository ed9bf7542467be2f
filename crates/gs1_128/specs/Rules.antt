-- The rules of the two calls. Document 01: "Reading GS1-128 tests 1, 4, 5, 6, 7, 8, then the message's 9 to 11, then 12." Writing tests the
-- message, 1, 2, 9, 10, 11, then 12; what it draws is the best spelling.
use Rattle.std.specs.Prelude.{ℕ, List}
use Rattle.refusal.specs.Outcome.{Outcome, made, ◌>>=◌}
use Rattle.refusal.specs.Fills.{laying}
use Rattle.elements.specs.Strings.{parsed, tested}
use Rattle.code_sets.specs.Reading.{decoded}
use Rattle.spelling.specs.Best.{best_spelling}
use Rattle.gs1_128.specs.Symbol.{symbol_of}
use Rattle.gs1_128.specs.Scanning.{scanned}

-- the message that a start and the values after the first FNC1 spell: 8, then 9 to 11
unfoldable pub message_from : ℕ → List ℕ → Outcome (List ℕ)
message_from start values = do
  text ← decoded start values
  strings ← parsed text
  made text

-- the message that a list of widths holds
unfoldable pub message_in : List ℕ → Outcome (List ℕ)
message_in widths = do
  symbol ← scanned widths
  message_from symbol.start symbol.values

unfoldable pub reads : List ℕ → ℕ → Outcome (List ℕ)
reads widths room = do
  text ← message_in widths
  laying text room

-- the symbol that is drawn for a message
abbrev pub best_symbol : List ℕ → List ℕ
best_symbol message = symbol_of (best_spelling message)

unfoldable pub writes : List ℕ → ℕ → Outcome (List ℕ)
writes message room = do
  strings ← tested message
  laying (best_symbol message) room
