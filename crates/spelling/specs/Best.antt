-- Document 01: "Shortest: no legal spelling of the message, sets A to C and shifts included, has a smaller n. Tie: among the shortest that use
-- only B and C, compare the values from the start on; at the first difference the smaller value wins." Set A and shifts never make a
-- spelling shorter, so B and C are all that is looked at. What is best from B and what is best from C come together, from the end of the
-- message on.
use Rattle.std.specs.Prelude.{ℕ, ◌+◌, ◌-◌, ◌*◌, ◌<◌, ◌≡◌, Bool, true, false, cond, ◌&&◌, List, [], ◌∷◌, length, get_or, take, eqb, ltb, Option, Some, None}
use Rattle.digits.specs.Digit.{is_digit, value_of}
use Rattle.character_set_82.specs.Characters.{separator}

-- less, or equal and a further test passes
abbrev pub less_or : ℕ → ℕ → Bool → Bool
less_or x y further = cond (ltb x y) true (cond (eqb x y) further false)

-- the smaller value at the first difference, for lists of one length
unfoldable pub comes_first : List ℕ → List ℕ → Bool
comes_first [] ys = true
comes_first (x ∷ xs) [] = false
comes_first (x ∷ xs) (y ∷ ys) = less_or x y (comes_first xs ys)

-- at the first place where two lists differ, the one has the smaller value
pub record Precedes (xs ys : List ℕ) : Type 0 where
  pub place : ℕ
  pub within : place < length xs
  pub before : take place xs ≡ take place ys
  pub smaller : get_or xs place 0 < get_or ys place 0

-- fewer characters, or as many and first
unfoldable pub better : List ℕ → List ℕ → Bool
better xs ys = less_or (length xs) (length ys) (comes_first xs ys)

abbrev pub better_of : List ℕ → List ℕ → List ℕ
better_of xs ys = cond (better xs ys) xs ys

-- the best values for a message, read from set B on and from set C on
pub record Best : Type 0 where
  pub in_b : List ℕ
  pub in_c : List ℕ

-- a byte's value in set B
abbrev pub value_b : ℕ → ℕ
value_b byte = cond (eqb byte separator) 102 (byte - 32)

-- the best that begins with a character of set C that is no change: FNC1, or two digits. `after` is what is best past the first byte,
-- `after2` past the second
abbrev pub first_c : ℕ → List ℕ → Best → Best → Option (List ℕ)
first_c byte [] after after2 = cond (eqb byte separator) (Some (102 ∷ after.in_c)) None
first_c byte (next ∷ rest) after after2 =
    cond (eqb byte separator) (Some (102 ∷ after.in_c))
    (cond (is_digit byte && is_digit next) (Some ((10 * value_of byte + value_of next) ∷ after2.in_c)) None)

-- from set B: stay there, or change (99) first; from set C likewise (100)
abbrev pub chosen : List ℕ → Option (List ℕ) → Best
chosen b None = record { in_b = b; in_c = 100 ∷ b }
chosen b (Some c) = record { in_b = better_of b (99 ∷ c); in_c = better_of c (100 ∷ b) }

abbrev pub nothing : Best
nothing = record { in_b = []; in_c = [] }

-- what is best for a message, and what is best past its first byte
unfoldable pub bests : List ℕ → Best × Best
bests [] = (nothing, nothing)
bests (byte ∷ rest) =
    let (after, after2) = bests rest in
    (chosen (value_b byte ∷ after.in_b) (first_c byte rest after after2), after)

-- what is best from set B on, and from set C on
abbrev pub from_b : List ℕ → List ℕ
from_b text = (bests text).0.in_b

abbrev pub from_c : List ℕ → List ℕ
from_c text = (bests text).0.in_c

-- the start, the first FNC1, and the values: 104 starts set B, 105 set C
unfoldable pub best_spelling : List ℕ → List ℕ
best_spelling message = better_of (104 ∷ 102 ∷ from_b message) (105 ∷ 102 ∷ from_c message)
