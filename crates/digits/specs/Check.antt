-- Document 01, "Numbers and check digit": "from the right, the digits before it weigh 3, 1, 3, ... in turn; it brings the sum to a
-- multiple of 10."
use Rattle.std.specs.Prelude.{ℕ, ◌+◌, ◌-◌, ◌%◌, ◌≡◌, Bool, cond, ◌&&◌, ◌⊎◌, List, length, get_or, take, leb, eqb}
use Rattle.laws.specs.Weighed.{weighed}
use Rattle.refusal.specs.declared.Refusal.TheVariants.{Count, CheckDigit}
use Rattle.refusal.specs.Outcome.{Outcome, made, ◌>>=◌, ◌>>◌, must}
use Rattle.digits.specs.Digit.{digits_of}

-- the weight of a digit that has k digits between it and the check digit
unfoldable pub weight_at : ℕ → ℕ
weight_at k = cond (eqb (k % 2) 0) 3 1

-- the check digit of the digits before it
unfoldable pub check_of : List ℕ → ℕ
check_of digits = (10 - weighed weight_at digits % 10) % 10

-- the last digit brings the sum of those before it to a multiple of 10
unfoldable pub is_right : List ℕ → Bool
is_right digits =
    eqb ((weighed weight_at (take (length digits - 1) digits) + get_or digits (length digits - 1) 0) % 10) 0

-- "The call that computes one takes 1 to 17 digits."
unfoldable pub check_digit : List ℕ → Outcome ℕ
check_digit bytes = do
  must (leb 1 (length bytes) && leb (length bytes) 17) Count
  digits ← digits_of bytes
  made (check_of digits)

-- a number of `count` digits, the last of them its check digit: refusals 1, 2 and 3 in this order
unfoldable pub right_number : ℕ → List ℕ → Outcome (List ℕ)
right_number count number = do
  must (eqb (length number) count) Count
  digits ← digits_of number
  must (is_right digits) CheckDigit
  made digits

-- two digits that differ by 5: exchanged, they change the sum by a multiple of 10
abbrev pub FiveApart : ℕ → ℕ → Type 0
FiveApart a b = (a ≡ b + 5) ⊎ (b ≡ a + 5)
