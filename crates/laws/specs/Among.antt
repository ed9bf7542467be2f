-- Whether a number is one of a list, and where it stands there.
use Rattle.std.specs.Prelude.{ℕ, Bool, not, List, length, eqb, ltb}
use Rattle.laws.specs.First.{first_not}

-- the place of an element in a list, or the list's length where it is not there
unfoldable pub place_in : List ℕ → ℕ → ℕ
place_in xs x = first_not (λ y. not (eqb y x)) xs

abbrev pub among : List ℕ → ℕ → Bool
among xs x = ltb (place_in xs x) (length xs)
