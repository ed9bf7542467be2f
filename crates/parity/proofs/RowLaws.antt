-- Every parity row has six letters, each A or B, and no two rows of a table are equal: computed tests over the ten rows of each. So six digits
-- in the sets of a row are six values, which tell the digits and the row's own digit.
use Prim.Native.Nat.{ℕ, ◌/◌, ◌%◌, ◌<◌}
use mathlib.Core.Path.{◌≡◌, refl, sym, ap, ◌∙◌}
use mathlib.Core.List.{List, [], map}
use lib.ListN.{length, get_or}
use lib.Dec.{T}
use Rattle.laws.specs.Below.{Below}
use Rattle.laws.specs.First.{first_not}
use Rattle.laws.proofs.Tables.{at_entry}
use Rattle.patterns.specs.Patterns.{same, value_in}
use Rattle.patterns.proofs.PatternLaws.{pattern_at, distinct, value_at}
use Rattle.patterns.proofs.CharacterLaws.{sized, length_at}
use Rattle.patterns.proofs.DrawnBelow.{small, all_small, row_below}
use Rattle.parity.specs.declared.rows.Rows.{Rows}
use Rattle.parity.specs.declared.rows.Rows.TheVariants.{FirstDigit, CheckDigit}
use Rattle.parity.specs.Letters.{in_sets}
use Rattle.parity.specs.Rows.{rows_of}
use Rattle.parity.proofs.LetterLaws as Letter

pub ten_rows : (rows : Rows) → length (rows_of rows) ≡ 10
ten_rows FirstDigit = refl
ten_rows CheckDigit = refl

pub distinct_rows : (rows : Rows) → T (distinct (rows_of rows))
unfolding value_in first_not same
distinct_rows FirstDigit = tt
distinct_rows CheckDigit = tt

sized_rows : (rows : Rows) → T (sized 6 (rows_of rows))
sized_rows FirstDigit = tt
sized_rows CheckDigit = tt

small_rows : (rows : Rows) → T (all_small 2 (rows_of rows))
small_rows FirstDigit = tt
small_rows CheckDigit = tt

module _ (rows : Rows) (digit : ℕ) (ten : digit < 10) where
  abbrev row : List ℕ
  row = get_or (rows_of rows) digit []

  within : digit < length (rows_of rows)
  within = rw (ten_rows rows) ten

  pub length_of_row : length row ≡ 6
  length_of_row = length_at (rows_of rows) 6 (sized_rows rows) digit within

  pub letters_of_row : Below 2 row
  letters_of_row = row_below 2 row (at_entry (λ (k : ℕ) (letters : List ℕ). small 2 letters) [] (rows_of rows) (small_rows rows) digit within)

-- six digits that a digit's row puts in sets A and B
pub record InRow (rows : Rows) (digit : ℕ) (digits : List ℕ) : Type 0 where
  pub ten : digit < 10
  pub six : length digits ≡ 6
  pub below : Below 10 digits

module _ {rows : Rows} {digit : ℕ} {digits : List ℕ} (r : InRow rows digit digits) where
  abbrev letters : List ℕ
  letters = get_or (rows_of rows) digit []

  abbrev pub values : List ℕ
  values = in_sets letters digits

  pub letters_below : Below 2 letters
  letters_below = letters_of_row rows digit r.ten

  same_counts : length letters ≡ length digits
  same_counts = length_of_row rows digit r.ten ∙ sym r.six

  pub six_values : length values ≡ 6
  six_values = Letter.length_in_sets letters digits same_counts ∙ r.six

  pub values_below : Below 20 values
  values_below = Letter.in_sets_below letters digits same_counts letters_below r.below

  pub digits_again : map (λ v. v % 10) values ≡ digits
  digits_again = Letter.digits_again letters digits same_counts r.below

  pub digit_again : value_in (rows_of rows) (map (λ v. v / 10) values) ≡ digit
  digit_again =
      ap (value_in (rows_of rows)) (Letter.letters_again letters digits same_counts r.below)
      ∙ value_at (rows_of rows) (distinct_rows rows) digit (within rows digit r.ten)

-- and values whose letters are a row are their digits in its sets
pub values_again : (rows : Rows) (values : List ℕ) → value_in (rows_of rows) (map (λ v. v / 10) values) < 10 → in_sets (get_or (rows_of rows) (value_in (rows_of rows) (map (λ v. v / 10) values)) []) (map (λ v. v % 10) values) ≡ values
values_again rows values ten =
    ap (λ (letters : List ℕ). in_sets letters (map (λ v. v % 10) values)) (pattern_at (rows_of rows) (map (λ v. v / 10) values) (rw (ten_rows rows) ten))
    ∙ Letter.values_again values
