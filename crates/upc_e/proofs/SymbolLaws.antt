-- UPC-E, there and back: the six characters come back by the laws of all characters between guards; their letters are the check digit's row, and
-- the ones of every value its digit.
use Prim.Native.Nat.{ℕ, ◌+◌, ◌*◌, ◌%◌, ◌<◌}
use mathlib.Core.Path.{◌≡◌, sym, ap, ap₂, ◌∙◌, subst}
use mathlib.Core.List.{List, [], ◌∷◌, ◌++◌, map}
use native.Mathlib.Omega.{arith}
use lib.ListN.{length, get_or, take, length-take, length-append, length-map}
use lib.Seq.{take_at, take_all, take-suc, get_or_at}
use lib.Dec.{ltb}
use borrow.Author.Tests.{lt-ltb, ltb-true}
use Rattle.laws.specs.Below.{Below}
use Rattle.laws.specs.Sum.{sum}
use Rattle.laws.proofs.BelowLaws.{below_take, below_append, below_last}
use Rattle.laws.proofs.SumLaws.{sum_of_append}
use Rattle.refusal.specs.declared.Refusal.TheVariants.{Pattern}
use Rattle.refusal.specs.Outcome.{made}
use Rattle.refusal.proofs.OutcomeLaws.{made_same, must_made, bind_made}
use Rattle.patterns.specs.Patterns.{drawn}
use Rattle.patterns.specs.Between.{between}
use Rattle.patterns.proofs.BetweenLaws.{length_between, between_of_drawn, drawn_of_between}
use Rattle.patterns.proofs.DrawnBelow.{row_below, drawn_below}
use Rattle.patterns.proofs.DrawnSums.{sum_of_drawn}
use Rattle.parity.specs.declared.rows.Rows.TheVariants.{CheckDigit}
use Rattle.parity.specs.Letters.{in_sets}
use Rattle.parity.specs.Rows.{by_check_digit}
use Rattle.parity.proofs.LetterLaws.{remainders_below}
use Rattle.parity.proofs.RowLaws as Row
use Rattle.parity.proofs.RowLaws.{InRow}
use Rattle.ean_upc.specs.declared.tables.Sets.TheVariants.{AOrB}
use Rattle.ean_upc.specs.Tables.{guard}
use Rattle.ean_upc.specs.Halves.{patterns_of}
use Rattle.ean_upc.proofs.SetLaws.{distinct_sets, sized_sets}
use Rattle.upc_e.specs.UpcE.{end_guard, framed, values_in, symbol, check_from, scanned}

-- six values between the guards
module _ (values : List ℕ) (six : length values ≡ 6) (below : Below 20 values) where
  pub values_of_framed : values_in (framed values) ≡ made values
  values_of_framed =
      subst (λ (n : ℕ). between guard end_guard (patterns_of AOrB) 4 n (framed values) ≡ made values) six
      (between_of_drawn guard end_guard (patterns_of AOrB) 4 (sized_sets AOrB) values below (distinct_sets AOrB))

  length_of_framed : length (framed values) ≡ 33
  length_of_framed = length_between guard end_guard (patterns_of AOrB) 4 (sized_sets AOrB) values below ∙ ap (λ (n : ℕ). 3 + 4 * n + 6) six

  -- every character has seven modules, and the guards nine
  sum_of_framed : sum (framed values) ≡ 51
  unfolding sum
  sum_of_framed =
      sum_of_append (guard ++ drawn (patterns_of AOrB) values) end_guard
      ∙ ap (λ (n : ℕ). n + 6) (sum_of_append guard (drawn (patterns_of AOrB) values) ∙ ap (λ (n : ℕ). 3 + n) (sum_of_drawn (patterns_of AOrB) 7 tt values below ∙ ap (λ (n : ℕ). 7 * n) six))

-- what is known of a list with six values between its guards
pub framed_of_values : (widths values : List ℕ) → values_in widths ≡ made values → (framed values ≡ widths) × (length values ≡ 6) × Below 20 values
framed_of_values widths values e = drawn_of_between guard end_guard (patterns_of AOrB) 4 6 widths values e

-- the printed digits stand in the sets of the check digit's row
pub printed : (short : List ℕ) → length short ≡ 7 → Below 10 short → InRow CheckDigit (get_or short 6 0) (take 6 short)
printed short long below = record { ten = below 6 (omega arith); six = simp length-take (omega arith); below = below_take 10 6 short below }

module _ (short : List ℕ) (long : length short ≡ 7) (below : Below 10 short) where
  abbrev six : InRow CheckDigit (get_or short 6 0) (take 6 short)
  six = printed short long below

  abbrev values : List ℕ
  values = Row.values six

  pub length_of_symbol : length (symbol short) ≡ 33
  unfolding symbol
  length_of_symbol = length_of_framed values (Row.six_values six) (Row.values_below six)

  pub sum_of_symbol : sum (symbol short) ≡ 51
  unfolding symbol
  sum_of_symbol = sum_of_framed values (Row.six_values six) (Row.values_below six)

  short_again : map (λ v. v % 10) values ++ (get_or short 6 0 ∷ []) ≡ short
  short_again =
      ap (λ (digits : List ℕ). digits ++ (get_or short 6 0 ∷ [])) (Row.digits_again six) ∙ sym (take-suc short 6 0 (omega arith)) ∙ take_all 7 short (omega arith)

  pub scan_of_symbol : scanned (symbol short) ≡ made short
  unfolding scanned symbol
  scan_of_symbol =
      rw (values_of_framed values (Row.six_values six) (Row.values_below six), Row.digit_again six, lt-ltb (get_or short 6 0) 10 six.ten)
      (ap made short_again)

-- values that were scanned, and a check digit
module _ (widths values : List ℕ) (is : values_in widths ≡ made values) (check_below : check_from values < 10) where
  abbrev ones : List ℕ
  ones = map (λ v. v % 10) values

  abbrev found : List ℕ
  found = ones ++ (check_from values ∷ [])

  ones_long : length ones ≡ 6
  ones_long = length-map values (λ v. v % 10) ∙ (framed_of_values widths values is).1

  known_symbol : (symbol found ≡ widths) × (length found ≡ 7) × Below 10 found
  unfolding symbol
  known_symbol = (
    ap framed (ap₂ (λ (check : ℕ) (digits : List ℕ). in_sets (get_or by_check_digit check []) digits) (get_or_at ones (check_from values) [] 0 6 ones_long) (take_at ones (check_from values ∷ []) 6 ones_long) ∙ Row.values_again CheckDigit values check_below) ∙ (framed_of_values widths values is).0,
    length-append ones (check_from values ∷ []) ∙ ap (λ (n : ℕ). n + 1) ones_long,
    below_last 10 ones (check_from values) (remainders_below values) check_below,
  )

pub symbol_of_scan : (widths short : List ℕ) → scanned widths ≡ made short → (symbol short ≡ widths) × (length short ≡ 7) × Below 10 short
unfolding scanned
symbol_of_scan widths short e =
    let v = bind_made (values_in widths) _ short e in
    let p = must_made (ltb (check_from v.0) 10) (Pattern 12) _ short v.2 in
    subst (λ (ds : List ℕ). (symbol ds ≡ widths) × (length ds ≡ 7) × Below 10 ds) (made_same _ short p.1)
    (known_symbol widths v.0 v.1 (ltb-true _ 10 p.0))

pub widths_below : (short : List ℕ) → Below 10 (symbol short)
unfolding symbol
widths_below short =
    below_append 10 (guard ++ drawn (patterns_of AOrB) _) end_guard
    (below_append 10 guard (drawn (patterns_of AOrB) _) (row_below 10 guard tt) (drawn_below 10 (patterns_of AOrB) tt _))
    (row_below 10 end_guard tt)
