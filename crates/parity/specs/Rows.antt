-- The rows of six letters that stand for a digit: the first one of an EAN-13, by document 01, "Numbers and check digit", or the check digit of
-- a UPC-E, by document 02, request 1.
use Rattle.std.specs.Prelude.{ℕ, List, [], ◌∷◌}
use Rattle.parity.specs.declared.rows.Rows.{Rows}
use Rattle.parity.specs.declared.rows.Rows.TheVariants.{FirstDigit, CheckDigit}
use Rattle.parity.specs.Letters.{A, B}

-- "The first digit chooses the parity row"; "the ten parity rows of six letters are, for 0 to 9"
abbrev pub by_first_digit : List (List ℕ)
by_first_digit =
    (A ∷ A ∷ A ∷ A ∷ A ∷ A ∷ [])
    ∷ (A ∷ A ∷ B ∷ A ∷ B ∷ B ∷ [])
    ∷ (A ∷ A ∷ B ∷ B ∷ A ∷ B ∷ [])
    ∷ (A ∷ A ∷ B ∷ B ∷ B ∷ A ∷ [])
    ∷ (A ∷ B ∷ A ∷ A ∷ B ∷ B ∷ [])
    ∷ (A ∷ B ∷ B ∷ A ∷ A ∷ B ∷ [])
    ∷ (A ∷ B ∷ B ∷ B ∷ A ∷ A ∷ [])
    ∷ (A ∷ B ∷ A ∷ B ∷ A ∷ B ∷ [])
    ∷ (A ∷ B ∷ A ∷ B ∷ B ∷ A ∷ [])
    ∷ (A ∷ B ∷ B ∷ A ∷ B ∷ A ∷ [])
    ∷ []

-- "the parity row comes from the check digit (ISO/IEC 15420), for 0 to 9"
abbrev pub by_check_digit : List (List ℕ)
by_check_digit =
    (B ∷ B ∷ B ∷ A ∷ A ∷ A ∷ [])
    ∷ (B ∷ B ∷ A ∷ B ∷ A ∷ A ∷ [])
    ∷ (B ∷ B ∷ A ∷ A ∷ B ∷ A ∷ [])
    ∷ (B ∷ B ∷ A ∷ A ∷ A ∷ B ∷ [])
    ∷ (B ∷ A ∷ B ∷ B ∷ A ∷ A ∷ [])
    ∷ (B ∷ A ∷ A ∷ B ∷ B ∷ A ∷ [])
    ∷ (B ∷ A ∷ A ∷ A ∷ B ∷ B ∷ [])
    ∷ (B ∷ A ∷ B ∷ A ∷ B ∷ A ∷ [])
    ∷ (B ∷ A ∷ B ∷ A ∷ A ∷ B ∷ [])
    ∷ (B ∷ A ∷ A ∷ B ∷ A ∷ B ∷ [])
    ∷ []

abbrev pub rows_of : Rows → List (List ℕ)
rows_of FirstDigit = by_first_digit
rows_of CheckDigit = by_check_digit
