-- EAN-13, there and back: the two halves come back by the laws of all halves; the letters of the left one are the first digit's row, and the
-- ones of every value its digit.
use Prim.Native.Nat.{ℕ, ◌/◌, ◌%◌, ◌<◌}
use mathlib.Core.Path.{◌≡◌, sym, ap, ap₂, ◌∙◌, subst}
use mathlib.Core.List.{List, [], ◌∷◌, ◌++◌, map, map-append}
use native.Mathlib.Omega.{arith}
use lib.ListN.{length, get_or, take, drop, length-take, length-drop, length-map, take-append-drop}
use lib.Seq.{take_at, drop-cons, drop-drop}
use lib.Dec.{ltb}
use borrow.Author.Tests.{lt-ltb, ltb-true}
use Rattle.laws.specs.Below.{Below}
use Rattle.laws.proofs.BelowLaws.{below_take, below_drop, below_more}
use Rattle.laws.proofs.Mapped.{take_map, drop_map}
use Rattle.refusal.specs.declared.Refusal.TheVariants.{Pattern}
use Rattle.refusal.specs.Outcome.{made}
use Rattle.refusal.proofs.OutcomeLaws.{made_same, must_made, bind_made}
use Rattle.patterns.specs.Patterns.{value_in}
use Rattle.parity.specs.declared.rows.Rows.TheVariants.{FirstDigit}
use Rattle.parity.specs.Letters.{in_sets}
use Rattle.parity.specs.Rows.{by_first_digit}
use Rattle.parity.proofs.LetterLaws.{digits_of_below, remainders_below}
use Rattle.parity.proofs.RowLaws as Row
use Rattle.parity.proofs.RowLaws.{InRow}
use Rattle.ean_upc.specs.declared.tables.Sets.TheVariants.{AOrB}
use Rattle.ean_upc.specs.Halves.{halves_drawn, halves_in}
use Rattle.ean_upc.proofs.HalvesLaws.{Halves, length_of_drawn, halves_of_drawn, drawn_of_halves, widths_below as halves_below}
use Rattle.ean13.specs.Ean13.{symbol, first_of, scanned}

pub left_half : (digits : List ℕ) → length digits ≡ 13 → Below 10 digits → InRow FirstDigit (get_or digits 0 0) (take 6 (drop 1 digits))
left_half digits long below =
    record { ten = below 0 (omega arith); six = simp (length-take, length-drop) (omega arith); below = below_take 10 6 (drop 1 digits) (below_drop 10 1 digits below) }

module _ (digits : List ℕ) (long : length digits ≡ 13) (below : Below 10 digits) where
  abbrev half : InRow FirstDigit (get_or digits 0 0) (take 6 (drop 1 digits))
  half = left_half digits long below

  abbrev left : List ℕ
  left = Row.values half

  abbrev right : List ℕ
  right = drop 7 digits

  right_long : length right ≡ 6
  right_long = rw length-drop (omega arith)

  pub length_of_symbol : length (symbol digits) ≡ 59
  unfolding symbol
  length_of_symbol = length_of_drawn AOrB 6 left right (Row.six_values half) right_long (Row.values_below half) (below_drop 10 7 digits below)

  halves : halves_in AOrB 6 (symbol digits) ≡ made (left ++ right)
  unfolding symbol
  halves = halves_of_drawn AOrB 6 left right (Row.six_values half) right_long (Row.values_below half) (below_drop 10 7 digits below)

  first_scanned : first_of (left ++ right) ≡ get_or digits 0 0
  first_scanned =
      ap (λ (half : List ℕ). value_in by_first_digit (map (λ v. v / 10) half)) (take_at left right 6 (Row.six_values half))
      ∙ Row.digit_again half

  digits_scanned : get_or digits 0 0 ∷ map (λ v. v % 10) (left ++ right) ≡ digits
  digits_scanned =
      let ones = map-append (λ v. v % 10) left right ∙ ap₂ (λ (front back : List ℕ). front ++ back) (Row.digits_again half) (digits_of_below right (below_drop 10 7 digits below)) in
      ap (λ (rest : List ℕ). get_or digits 0 0 ∷ rest) ones
      ∙ ap (λ (back : List ℕ). get_or digits 0 0 ∷ (take 6 (drop 1 digits) ++ back)) (sym (drop-drop 6 1 digits))
      ∙ ap (λ (rest : List ℕ). get_or digits 0 0 ∷ rest) (take-append-drop 6 (drop 1 digits))
      ∙ sym (drop-cons digits 0 0 (omega arith))

  pub scan_of_symbol : scanned (symbol digits) ≡ made digits
  unfolding scanned
  scan_of_symbol = rw (halves, first_scanned, lt-ltb (get_or digits 0 0) 10 half.ten) (ap made digits_scanned)

-- values that were scanned, and a first digit
module _ (widths values : List ℕ) (known : Halves AOrB 6 widths values) (first_below : first_of values < 10) where
  abbrev ones : List ℕ
  ones = map (λ v. v % 10) values

  left_drawn : in_sets (get_or by_first_digit (first_of values) []) (take 6 ones) ≡ take 6 values
  left_drawn = ap (in_sets (get_or by_first_digit (first_of values) [])) (take_map (λ v. v % 10) 6 values) ∙ Row.values_again FirstDigit (take 6 values) first_below

  known_symbol : (symbol (first_of values ∷ ones) ≡ widths) × (length (first_of values ∷ ones) ≡ 13) × Below 10 (first_of values ∷ ones)
  unfolding symbol
  known_symbol = (
    ap₂ (halves_drawn AOrB) left_drawn (drop_map (λ v. v % 10) 6 values ∙ digits_of_below (drop 6 values) known.right_below) ∙ known.drawn_again,
    omega (arith, length-map values (λ v. v % 10), known.counted),
    below_more 10 (first_of values) ones first_below (remainders_below values),
  )

pub symbol_of_scan : (widths digits : List ℕ) → scanned widths ≡ made digits → (symbol digits ≡ widths) × (length digits ≡ 13) × Below 10 digits
unfolding scanned
symbol_of_scan widths digits e =
    let h = bind_made (halves_in AOrB 6 widths) _ digits e in
    let p = must_made (ltb (first_of h.0) 10) (Pattern 12) _ digits h.2 in
    subst (λ (ds : List ℕ). (symbol ds ≡ widths) × (length ds ≡ 13) × Below 10 ds) (made_same _ digits p.1)
    (known_symbol widths h.0 (drawn_of_halves AOrB 6 widths h.0 h.1) (ltb-true _ 10 p.0))

pub widths_below : (digits : List ℕ) → length digits ≡ 13 → Below 10 digits → Below 10 (symbol digits)
unfolding symbol
widths_below digits long below = halves_below AOrB _ _
