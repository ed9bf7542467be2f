-- How the best spelling is found: from the end of the message on, a state at each place tells all that matters of the text ahead, which is
-- by how much what is best from B is longer than what is best from C; and it tells in which set the byte at the place is spelled.
use Rattle.std.specs.Prelude.{ℕ, ◌≤◌, ◌<◌, ◌≡◌, Bool, cond, List, [], ◌∷◌, length, get_or, drop, eqb, ltb}
use Rattle.digits.specs.Digit.{is_digit}
use Rattle.character_set_82.specs.Characters.{separator}
use Rattle.spelling.specs.declared.Step.{Step}
use Rattle.spelling.specs.Best.{from_b, from_c}

-- from set C where that is on, else from set B
abbrev pub from : Bool → List ℕ → List ℕ
from c text = cond c (from_c text) (from_b text)

-- Of each of the 16 states: its lead, by how much what is best from B, with one character more, is longer than what is best from C; and its
-- reach, by how much what is best from B, with two characters more, is longer than what is best from C past the first byte, if that is a
-- digit, else 0.
abbrev pub leads : List ℕ
leads = 0 ∷ 0 ∷ 0 ∷ 0 ∷ 1 ∷ 1 ∷ 2 ∷ 1 ∷ 2 ∷ 0 ∷ 1 ∷ 2 ∷ 2 ∷ 2 ∷ 2 ∷ 2 ∷ []

abbrev pub reaches : List ℕ
reaches = 0 ∷ 2 ∷ 3 ∷ 4 ∷ 0 ∷ 2 ∷ 2 ∷ 3 ∷ 3 ∷ 4 ∷ 4 ∷ 4 ∷ 0 ∷ 1 ∷ 2 ∷ 3 ∷ []

-- the set that spells the byte: 0 is B, 1 the one that is on, 2 is C
abbrev pub way_of : ℕ → ℕ
way_of state = cond (ltb state 4) 0 (cond (ltb state 12) 1 2)

-- the state at a digit and at a separator, by the state past it
abbrev pub at_digit : List ℕ
at_digit = 1 ∷ 5 ∷ 6 ∷ 13 ∷ 2 ∷ 7 ∷ 10 ∷ 8 ∷ 11 ∷ 13 ∷ 14 ∷ 15 ∷ 3 ∷ 9 ∷ 10 ∷ 11 ∷ []

abbrev pub at_separator : List ℕ
at_separator = 0 ∷ 0 ∷ 0 ∷ 0 ∷ 4 ∷ 4 ∷ 12 ∷ 4 ∷ 12 ∷ 0 ∷ 4 ∷ 12 ∷ 12 ∷ 12 ∷ 12 ∷ 12 ∷ []

unfoldable pub state_at : ℕ → ℕ → ℕ
state_at byte past = cond (is_digit byte) (get_or at_digit past 0) (cond (eqb byte separator) (get_or at_separator past 0) 0)

unfoldable pub state_of : List ℕ → ℕ
state_of [] = 4
state_of (byte ∷ rest) = state_at byte (state_of rest)

-- whether the shortest spelling starts in set C
unfoldable pub starts_in_c : ℕ → Bool
starts_in_c state = eqb (get_or at_separator state 0) 12

-- the states of a message's places
abbrev pub StatesOf : List ℕ → List ℕ → Type 0
StatesOf message states = (k : ℕ) → k < length message → get_or states k 0 ≡ state_of (drop k message)

-- one value of what is best from the set that is on, and how it goes on
pub record Steps (message : List ℕ) (c : Bool) (at : ℕ) (step : Step) : Type 0 where
  pub best : from c (drop at message) ≡ step.value ∷ from step.c (drop step.next message)
  pub within : step.next ≤ length message
