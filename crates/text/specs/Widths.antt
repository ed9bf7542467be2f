-- Document 01, "Examples on each side": "the widths run together". No width that is drawn has two digits. Typed, widths are digits too, one to
-- a width; or, with spaces between them, decimal numbers from 0 to 255.
use Rattle.std.specs.Prelude.{ℕ, ◌+◌, ◌≡◌, cond, List, [], ◌∷◌, map, length, take, eqb, Option, Some, None}
use Rattle.laws.specs.First.{first_not}
use Rattle.digits.specs.Digit.{is_digit, value_of}
use Rattle.lines.specs.Cut.{other_than, cut_at}
use Rattle.text.specs.Numeral.{number_in}

abbrev pub run_together : List ℕ → List ℕ
run_together widths = map (λ width. 48 + width) widths

-- what a text says, if it says widths at all
pub data Said : Type 0 where
  widths : List ℕ → Said
  nothing : Said

-- one width more, before the others
abbrev pub before : Option ℕ → Said → Said
before (Some width) (widths more) = widths (width ∷ more)
before (Some width) nothing = nothing
before None said = nothing

unfoldable pub numbers_of : List (List ℕ) → Said
numbers_of [] = widths []
numbers_of (word ∷ words) = before (number_in word 255) (numbers_of words)

unfoldable pub numbers_in : List ℕ → Said
numbers_in typed = numbers_of (cut_at 32 typed)

unfoldable pub digits_in : List ℕ → Said
digits_in typed = cond (eqb (first_not is_digit typed) (length typed)) (widths (map value_of typed)) nothing

unfoldable pub widths_in : List ℕ → Said
widths_in typed = cond (eqb (first_not (other_than 32) typed) (length typed)) (digits_in typed) (numbers_in typed)

abbrev pub count_of : Said → Option ℕ
count_of (widths list) = Some (length list)
count_of nothing = None

-- a function that was to take what a text says answers r and leaves `after`: the widths stand at its front
pub record Takes (said : Said) (r : Option ℕ) (after : List ℕ) : Type 0 where
  pub count : r ≡ count_of said
  pub front : (list : List ℕ) → said ≡ widths list → take (length list) after ≡ list
