-- Document 01, "Element strings", and document 02, request 3: what the data of each row must be. Refusal 10: "data of an element string wrong".
use Rattle.std.specs.Prelude.{ℕ, ◌+◌, ◌*◌, ◌%◌, Bool, cond, ◌&&◌, List, [], ◌∷◌, map, length, get_or, leb, eqb}
use Rattle.laws.specs.First.{first_not}
use Rattle.laws.specs.Among.{among}
use Rattle.digits.specs.Digit.{is_digit, value_of}
use Rattle.digits.specs.Check.{is_right}
use Rattle.character_set_82.specs.Characters.{is_of82}
use Rattle.identifiers.specs.declared.Content.{Content}
use Rattle.identifiers.specs.declared.Content.TheVariants.{DigitsWithCheck, Date, Digits, Text}
use Rattle.identifiers.specs.declared.Kind.{Kind}

abbrev pub all_pass : (ℕ → Bool) → List ℕ → Bool
all_pass test bytes = eqb (first_not test bytes) (length bytes)

-- the number that two digits make
abbrev pub pair_at : List ℕ → ℕ → ℕ
pair_at bytes i = 10 * value_of (get_or bytes i 0) + value_of (get_or bytes (i + 1) 0)

-- how many days a month of a year has; "29 February needs a year YY divisible by 4 (00 is 2000)"
unfoldable pub days_in : ℕ → ℕ → ℕ
days_in year month =
    cond (among (4 ∷ 6 ∷ 9 ∷ 11 ∷ []) month) 30
    (cond (eqb month 2) (cond (eqb (year % 4) 0) 29 28) 31)

-- "YYMMDD; MM 01 to 12"; "DD must now exist in its month", and "DD 00 stays, it means no day is given"
unfoldable pub is_date : List ℕ → Bool
is_date bytes =
    all_pass is_digit bytes && leb 1 (pair_at bytes 2) && leb (pair_at bytes 2) 12
    && leb (pair_at bytes 4) (days_in (pair_at bytes 0) (pair_at bytes 2))

-- digits, the last of them the check digit
unfoldable pub is_number : List ℕ → Bool
is_number bytes = all_pass is_digit bytes && is_right (map value_of bytes)

unfoldable pub passes : Content → List ℕ → Bool
passes DigitsWithCheck bytes = is_number bytes
passes Date bytes = is_date bytes
passes Digits bytes = all_pass is_digit bytes
passes Text bytes = all_pass is_of82 bytes

unfoldable pub right_data : Kind → List ℕ → Bool
right_data kind bytes = leb kind.least (length bytes) && leb (length bytes) kind.most && passes kind.content bytes
