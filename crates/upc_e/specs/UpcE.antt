-- Document 02, request 1: "guard 111, six characters in sets A and B, end guard 111111, 33 widths; the parity row comes from the check digit".
-- Every guard is tested before any character, every character before the parity row (5 at 12), then 3, then 14, then 12.
use Rattle.std.specs.Prelude.{ℕ, ◌/◌, ◌%◌, List, [], ◌∷◌, ◌++◌, map, get_or, take, ltb}
use Rattle.refusal.specs.declared.Refusal.TheVariants.{CheckDigit, Pattern, Condensed}
use Rattle.refusal.specs.Outcome.{Outcome, made, ◌>>=◌, ◌>>◌, must}
use Rattle.refusal.specs.Fills.{laying}
use Rattle.digits.specs.Check.{is_right, right_number}
use Rattle.digits.specs.Numbered.{byte_of}
use Rattle.patterns.specs.Patterns.{value_in, drawn}
use Rattle.patterns.specs.Between.{between}
use Rattle.parity.specs.Letters.{in_sets}
use Rattle.parity.specs.Rows.{by_check_digit}
use Rattle.ean_upc.specs.declared.tables.Sets.TheVariants.{AOrB}
use Rattle.ean_upc.specs.Tables.{guard}
use Rattle.ean_upc.specs.Halves.{patterns_of}
use Rattle.upc_e.specs.Condensing.{expanded, condensed, is_own}

abbrev pub end_guard : List ℕ
end_guard = 1 ∷ 1 ∷ 1 ∷ 1 ∷ 1 ∷ 1 ∷ []

-- six characters between the guards; and their values in a list of widths: refusals 1, 4 and 5
abbrev pub framed : List ℕ → List ℕ
framed values = guard ++ drawn (patterns_of AOrB) values ++ end_guard

abbrev pub values_in : List ℕ → Outcome (List ℕ)
values_in widths = between guard end_guard (patterns_of AOrB) 4 6 widths

-- the widths of a short number
unfoldable pub symbol : List ℕ → List ℕ
symbol short = framed (in_sets (get_or by_check_digit (get_or short 6 0) []) (take 6 short))

-- the check digit, by the letters of the characters; 10 where they are no row
abbrev pub check_from : List ℕ → ℕ
check_from values = value_in by_check_digit (map (λ v. v / 10) values)

-- the short number that widths hold
unfoldable pub scanned : List ℕ → Outcome (List ℕ)
scanned widths = do
  values ← values_in widths
  must (ltb (check_from values) 10) (Pattern 12)
  made (map (λ v. v % 10) values ++ (check_from values ∷ []))

unfoldable pub writes : List ℕ → ℕ → Outcome (List ℕ)
writes number room = do
  digits ← right_number 12 number
  short ← condensed digits
  laying (symbol short) room

unfoldable pub reads : List ℕ → ℕ → Outcome (List ℕ)
reads widths room = do
  short ← scanned widths
  must (is_right (expanded short)) CheckDigit
  must (is_own short) Condensed
  laying (map byte_of (expanded short)) room
