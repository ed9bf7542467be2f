-- A decimal numeral: one digit or more, and nothing else. Zeros before a number count for nothing.
use Rattle.std.specs.Prelude.{ℕ, ◌+◌, ◌*◌, min, Bool, cond, ◌&&◌, List, [], ◌∷◌, length, leb, eqb, Option, Some, None}
use Rattle.laws.specs.First.{first_not}
use Rattle.digits.specs.Digit.{is_digit, value_of}

abbrev pub is_numeral : List ℕ → Bool
is_numeral bytes = leb 1 (length bytes) && eqb (first_not is_digit bytes) (length bytes)

-- read from the left, after a number n: ten times that, and the next digit
unfoldable pub number_from : ℕ → List ℕ → ℕ
number_from n [] = n
number_from n (byte ∷ bytes) = number_from (n * 10 + value_of byte) bytes

-- a numeral that says `most` at the most
unfoldable pub number_in : List ℕ → ℕ → Option ℕ
number_in bytes most = cond (is_numeral bytes && leb (number_from 0 bytes) most) (Some (number_from 0 bytes)) None

-- a numeral, and `cap` for all that say more
unfoldable pub capped_in : List ℕ → ℕ → Option ℕ
capped_in bytes cap = cond (is_numeral bytes) (Some (min (number_from 0 bytes) cap)) None
