-- Document 02, request 1: "With six digits printed, the last one says where zeros return". The short number is the six printed digits and then
-- the check digit; the number that it stands for has twelve digits and begins with 0.
use Rattle.std.specs.Prelude.{ℕ, Bool, false, cond, List, [], ◌∷◌, get_or, leb, eqb}
use Rattle.refusal.specs.declared.Refusal.TheVariants.{Condensed}
use Rattle.refusal.specs.Outcome.{Outcome, made, refused}
use Rattle.patterns.specs.Patterns.{same}

-- "0 to 2, four zeros after the first two digits and that digit; 3, five zeros after three digits; 4, five zeros after four; 5 to 9, four zeros
-- after five, that digit last"
abbrev pub expanded_from : (a b c d e last check : ℕ) → List ℕ
expanded_from a b c d e last check =
    cond (leb last 2) (0 ∷ a ∷ b ∷ last ∷ 0 ∷ 0 ∷ 0 ∷ 0 ∷ c ∷ d ∷ e ∷ check ∷ [])
    (cond (eqb last 3) (0 ∷ a ∷ b ∷ c ∷ 0 ∷ 0 ∷ 0 ∷ 0 ∷ 0 ∷ d ∷ e ∷ check ∷ [])
    (cond (eqb last 4) (0 ∷ a ∷ b ∷ c ∷ d ∷ 0 ∷ 0 ∷ 0 ∷ 0 ∷ 0 ∷ e ∷ check ∷ [])
    (0 ∷ a ∷ b ∷ c ∷ d ∷ e ∷ 0 ∷ 0 ∷ 0 ∷ 0 ∷ last ∷ check ∷ [])))

unfoldable pub expanded : List ℕ → List ℕ
expanded short =
    expanded_from (get_or short 0 0) (get_or short 1 0) (get_or short 2 0) (get_or short 3 0) (get_or short 4 0) (get_or short 5 0) (get_or short 6 0)

-- what each of these rules would leave of twelve digits, by the digits' places from 0
abbrev pub shorts_from : (ℕ → ℕ) → List (List ℕ)
shorts_from at =
    (at 1 ∷ at 2 ∷ at 8 ∷ at 9 ∷ at 10 ∷ at 3 ∷ at 11 ∷ [])
    ∷ (at 1 ∷ at 2 ∷ at 3 ∷ at 9 ∷ at 10 ∷ 3 ∷ at 11 ∷ [])
    ∷ (at 1 ∷ at 2 ∷ at 3 ∷ at 4 ∷ at 10 ∷ 4 ∷ at 11 ∷ [])
    ∷ (at 1 ∷ at 2 ∷ at 3 ∷ at 4 ∷ at 5 ∷ at 10 ∷ at 11 ∷ [])
    ∷ []

unfoldable pub shorts : List ℕ → List (List ℕ)
shorts digits = shorts_from (λ (place : ℕ). get_or digits place 0)

-- a rule fits if what it leaves stands for the digits
unfoldable pub first_fit : List (List ℕ) → List ℕ → Outcome (List ℕ)
first_fit [] digits = refused Condensed
first_fit (short ∷ more) digits = cond (same (expanded short) digits) (made short) (first_fit more digits)

-- "the first of these rules that fits makes a GTIN-12's only UPC-E"
unfoldable pub condensed : List ℕ → Outcome (List ℕ)
condensed digits = first_fit (shorts digits) digits

abbrev pub same_as : List ℕ → Outcome (List ℕ) → Bool
same_as short (made other) = same other short
same_as short (refused f) = false

-- "a reading that would not be written back the same" is that of a false symbol
unfoldable pub is_own : List ℕ → Bool
is_own short = same_as short (condensed (expanded short))
