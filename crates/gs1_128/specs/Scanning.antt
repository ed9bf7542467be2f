-- What a list of widths holds, stage by stage: a permitted count, a start and the stop, the values between them; and these values judged.
-- Refusals 1, 4, 5, 6 and 7, in this order.
use Rattle.std.specs.Prelude.{ℕ, ◌+◌, ◌-◌, Bool, ◌&&◌, List, length, get_or, take, drop, ltb, eqb}
use Rattle.refusal.specs.declared.Refusal.TheVariants.{Count, Guard, CheckCharacter, FirstCharacter}
use Rattle.refusal.specs.Outcome.{Outcome, made, ◌>>=◌, ◌>>◌, must}
use Rattle.patterns.specs.Patterns.{same, value_in, characters}
use Rattle.code128.specs.Characters.{stop}
use Rattle.code128.specs.Check.{check_of}
use Rattle.gs1_128.specs.Symbol.{permitted, count_of, starts, allowed}

-- the start at the front, and all seven widths of the stop at the end
unfoldable pub guarded : List ℕ → Bool
guarded widths = ltb (value_in starts (take 6 widths)) 3 && same (drop (length widths - 7) widths) stop

-- the value of the start, 103 to 105
abbrev pub start_of : List ℕ → ℕ
start_of widths = 103 + value_in starts (take 6 widths)

-- refusal 4: the start
unfoldable pub start_in : List ℕ → Outcome ℕ
start_in widths = do
  must (guarded widths) Guard
  made (start_of widths)

-- refusal 5: the values from the first FNC1 to the check; "the start of GS1-128 is 0", so the first FNC1 is place 1 and the check n + 1
abbrev pub values_in : List ℕ → Outcome (List ℕ)
values_in widths = characters allowed 6 (count_of widths + 1) 1 (drop 6 widths)

-- refusals 6 and 7, of a start and the values from the first FNC1 to the check, wherever they were found: the values between the two
unfoldable pub judged_values : ℕ → List ℕ → Outcome (List ℕ)
judged_values start values = do
  must (eqb (get_or values (length values - 1) 0) (check_of start (take (length values - 1) values))) CheckCharacter
  must (eqb (get_or values 0 0) 102) FirstCharacter
  made (take (length values - 2) (drop 1 values))

-- what a symbol holds: its start, and the values after the first FNC1
pub record Scanned : Type 0 where
  pub start : ℕ
  pub values : List ℕ

unfoldable pub scanned : List ℕ → Outcome Scanned
scanned widths = do
  must (permitted (length widths)) Count
  start ← start_in widths
  values ← values_in widths
  between ← judged_values start values
  made (record { start = start; values = between })
