-- What a matcher answers for some widths, and what it looks up: the one value that the widths can have.
use Rattle.std.specs.Prelude.{ℕ, ◌<◌, ◌≡◌, Bool, true, false, List, [], length, get_or, ltb, Option, Some, None}
use Rattle.patterns.specs.Patterns.{value_in}

-- by whether a pattern was found
abbrev pub answer_if : Bool → ℕ → Option ℕ
answer_if true value = Some value
answer_if false value = None

-- the value of the widths in a table of patterns, or that they have none
abbrev pub match_in : List (List ℕ) → List ℕ → Option ℕ
match_in patterns widths = answer_if (ltb (value_in patterns widths) (length patterns)) (value_in patterns widths)

-- if a pattern of the table has these widths, it is the one of this value
abbrev pub Candidate : List (List ℕ) → List ℕ → ℕ → Type 0
Candidate patterns widths value = (v : ℕ) → v < length patterns → get_or patterns v [] ≡ widths → value ≡ v
