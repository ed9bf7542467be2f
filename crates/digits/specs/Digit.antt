-- Document 01, refusal 2: "a byte that isn't a digit", at the "first such byte". Digits are the bytes `0` to `9`.
use Rattle.std.specs.Prelude.{ℕ, ◌-◌, Bool, ◌&&◌, List, map, length, leb, eqb}
use Rattle.laws.specs.First.{first_not}
use Rattle.refusal.specs.declared.Refusal.TheVariants.{Character}
use Rattle.refusal.specs.Outcome.{Outcome, made, ◌>>◌, must}

abbrev pub is_digit : ℕ → Bool
is_digit byte = leb 48 byte && leb byte 57

abbrev pub value_of : ℕ → ℕ
value_of byte = byte - 48

unfoldable pub digits_of : List ℕ → Outcome (List ℕ)
digits_of bytes = do
  must (eqb (first_not is_digit bytes) (length bytes)) (Character (first_not is_digit bytes))
  made (map value_of bytes)
