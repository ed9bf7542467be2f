-- What the symbols that hold one number have in common (EAN-13, EAN-8, ITF-14), document 01: writing refuses 1, 2, 3, 12 in this order;
-- reading tests the check digit when the widths have given the digits, "3 comes after 4 and 5", and 12 last.
use Rattle.std.specs.Prelude.{ℕ, ◌+◌, List, map}
use Rattle.refusal.specs.declared.Refusal.TheVariants.{CheckDigit}
use Rattle.refusal.specs.Outcome.{Outcome, ◌>>=◌, ◌>>◌, must}
use Rattle.refusal.specs.Fills.{laying}
use Rattle.digits.specs.Check.{is_right, right_number}

-- the byte of a digit
abbrev pub byte_of : ℕ → ℕ
byte_of digit = 48 + digit

-- a number of `count` digits, drawn as its symbol
unfoldable pub number_written : ℕ → (List ℕ → List ℕ) → List ℕ → ℕ → Outcome (List ℕ)
number_written count symbol number room = do
  digits ← right_number count number
  laying (symbol digits) room

-- the digits that a scan of the widths gave, as a number
unfoldable pub number_read : Outcome (List ℕ) → ℕ → Outcome (List ℕ)
number_read scanned room = do
  digits ← scanned
  must (is_right digits) CheckDigit
  laying (map byte_of digits) room
