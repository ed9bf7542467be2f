-- Document 01: "ITF-14, 77 widths, narrow 2, wide 5: start 2222, seven pairs, stop 522. Sum 241." The place of refusal 5 is the pair's.
use Rattle.std.specs.Prelude.{ℕ, ◌+◌, ◌*◌, ◌/◌, ◌%◌, List, [], ◌∷◌, ◌++◌}
use Rattle.refusal.specs.Outcome.{Outcome, made, ◌>>=◌}
use Rattle.digits.specs.Numbered.{number_written, number_read}
use Rattle.patterns.specs.Patterns.{drawn}
use Rattle.patterns.specs.Between.{between}
use Rattle.itf14.specs.Tables.{pairs, start, stop}

-- digits taken two by two, and back
abbrev pub paired : List ℕ → List ℕ
paired [] = []
paired (a ∷ []) = []
paired (a ∷ b ∷ digits) = (10 * a + b) ∷ paired digits

abbrev pub unpaired : List ℕ → List ℕ
unpaired [] = []
unpaired (value ∷ values) = (value / 10) ∷ (value % 10) ∷ unpaired values

unfoldable pub symbol : List ℕ → List ℕ
symbol digits = start ++ drawn pairs (paired digits) ++ stop

unfoldable pub scanned : List ℕ → Outcome (List ℕ)
scanned widths = do
  values ← between start stop pairs 10 7 widths
  made (unpaired values)

unfoldable pub writes : List ℕ → ℕ → Outcome (List ℕ)
writes = number_written 14 symbol

unfoldable pub reads : List ℕ → ℕ → Outcome (List ℕ)
reads widths room = number_read (scanned widths) room
