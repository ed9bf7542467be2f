-- Document 01: "EAN-13, 59 widths: guard 111, six characters in A or B, centre 11111, six in set C, guard 111. The first digit chooses the
-- parity row." Every guard is tested before any character, every character before the parity row (5 at 12), then 3, then 12.
use Rattle.std.specs.Prelude.{ℕ, ◌/◌, ◌%◌, List, [], ◌∷◌, map, get_or, take, drop, ltb}
use Rattle.refusal.specs.declared.Refusal.TheVariants.{Pattern}
use Rattle.refusal.specs.Outcome.{Outcome, made, ◌>>=◌, ◌>>◌, must}
use Rattle.digits.specs.Numbered.{number_written, number_read}
use Rattle.patterns.specs.Patterns.{value_in}
use Rattle.parity.specs.Letters.{in_sets}
use Rattle.parity.specs.Rows.{by_first_digit}
use Rattle.ean_upc.specs.declared.tables.Sets.TheVariants.{AOrB}
use Rattle.ean_upc.specs.Halves.{halves_drawn, halves_in}

unfoldable pub symbol : List ℕ → List ℕ
symbol digits =
    halves_drawn AOrB (in_sets (get_or by_first_digit (get_or digits 0 0) []) (take 6 (drop 1 digits))) (drop 7 digits)

-- the first digit, by the letters of the left half; 10 where they are no row
abbrev pub first_of : List ℕ → ℕ
first_of values = value_in by_first_digit (map (λ v. v / 10) (take 6 values))

unfoldable pub scanned : List ℕ → Outcome (List ℕ)
scanned widths = do
  values ← halves_in AOrB 6 widths
  must (ltb (first_of values) 10) (Pattern 12)
  made (first_of values ∷ map (λ v. v % 10) values)

unfoldable pub writes : List ℕ → ℕ → Outcome (List ℕ)
writes = number_written 13 symbol

unfoldable pub reads : List ℕ → ℕ → Outcome (List ℕ)
reads widths room = number_read (scanned widths) room
