-- Document 01: "GS1-128: 6n + 19 widths, where n counts the characters between start and check, first FNC1 included; n is 2 to 100." A
-- symbol is a start, the first FNC1, the values that spell the message, the check character and the stop.
use Rattle.std.specs.Prelude.{ℕ, ◌-◌, ◌/◌, ◌%◌, Bool, ◌&&◌, List, [], ◌∷◌, ◌++◌, length, take, drop, leb, eqb}
use Rattle.patterns.specs.Patterns.{drawn}
use Rattle.code128.specs.Characters.{patterns, stop}
use Rattle.code128.specs.Check.{check_of}

-- the values after a start, with their check character
abbrev pub with_check : ℕ → List ℕ → List ℕ
with_check start values = values ++ (check_of start values ∷ [])

-- a start and the values after it, with their check character
abbrev pub checked : List ℕ → List ℕ
checked [] = []
checked (start ∷ values) = start ∷ with_check start values

-- the widths of a start and the values after it, with their check character and the stop
unfoldable pub symbol_of : List ℕ → List ℕ
symbol_of [] = []
symbol_of (start ∷ values) = drawn patterns (checked (start ∷ values)) ++ stop

-- 31 widths for n = 2, and six more for each further character, to 619 for n = 100
abbrev pub permitted : ℕ → Bool
permitted count = leb 31 count && leb count 619 && eqb ((count - 19) % 6) 0

-- n
abbrev pub count_of : List ℕ → ℕ
count_of widths = (length widths - 19) / 6

-- the starts of sets A, B and C; and "after the start only 0 to 102 are allowed up to the stop"
abbrev pub starts : List (List ℕ)
starts = drop 103 patterns

abbrev pub allowed : List (List ℕ)
allowed = take 103 patterns
