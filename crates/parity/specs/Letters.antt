-- Characters in set A or B: a letter names the set of each digit. In both sets together a digit has its own value in A, and ten more in B, so
-- letter and digit are the tens and the ones of the value.
use Rattle.std.specs.Prelude.{ℕ, ◌+◌, ◌*◌, List, [], ◌∷◌}

abbrev pub A : ℕ
A = 0

abbrev pub B : ℕ
B = 1

-- the values of digits, each in the set that its letter names
abbrev pub in_sets : List ℕ → List ℕ → List ℕ
in_sets [] digits = []
in_sets (letter ∷ letters) [] = []
in_sets (letter ∷ letters) (digit ∷ digits) = (10 * letter + digit) ∷ in_sets letters digits
