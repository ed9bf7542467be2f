-- The scan and the drawing of a symbol undo one another, and every symbol has 77 widths that sum to 241: its ends are fixed, and the pairs
-- between them are a table's.
use Prim.Native.Nat.{ℕ, ◌+◌, ◌*◌}
use mathlib.Core.Path.{◌≡◌, ap, ◌∙◌, subst}
use mathlib.Core.List.{List, ◌++◌}
use lib.Dec.{T}
use lib.ListN.{length}
use Rattle.laws.specs.Sum.{sum}
use Rattle.laws.specs.Below.{Below}
use Rattle.laws.proofs.BelowLaws.{below_append}
use Rattle.laws.proofs.SumLaws.{sum_of_append}
use Rattle.refusal.specs.Outcome.{made}
use Rattle.refusal.proofs.OutcomeLaws.{made_same, bind_made}
use Rattle.patterns.specs.Patterns.{drawn}
use Rattle.patterns.specs.Between.{between}
use Rattle.patterns.proofs.DrawnBelow.{row_below, drawn_below}
use Rattle.patterns.proofs.DrawnSums.{summing, sum_of_drawn}
use Rattle.patterns.proofs.BetweenLaws.{length_between, between_of_drawn, drawn_of_between}
use Rattle.itf14.specs.Tables.{pairs, start, stop}
use Rattle.itf14.specs.Itf14.{paired, unpaired, symbol, scanned}
use Rattle.itf14.proofs.PairLaws.{length_pairs, sized_pairs, distinct_pairs}
use Rattle.itf14.proofs.PairedLaws.{length_paired, paired_below, paired_of_unpaired, unpaired_of_paired, length_unpaired, unpaired_digits}

summing_pairs : T (summing 32 pairs)
unfolding pairs sum
summing_pairs = tt

-- of fourteen digits
module _ (digits : List ℕ) (e : length digits ≡ 14) (below : Below 10 digits) where
  abbrev values : List ℕ
  values = paired digits

  seven : length values ≡ 7
  seven = length_paired 7 digits e

  within : Below (length pairs) values
  within = rw length_pairs (paired_below 7 digits e below)

  pub length_of_symbol : length (symbol digits) ≡ 77
  unfolding symbol
  length_of_symbol = length_between start stop pairs 10 sized_pairs values within ∙ ap (λ (n : ℕ). 4 + 10 * n + 3) seven

  pub sum_of_symbol : sum (symbol digits) ≡ 241
  unfolding symbol sum
  sum_of_symbol =
      let between : sum (drawn pairs values) ≡ 224 = sum_of_drawn pairs 32 summing_pairs values within ∙ ap (λ (n : ℕ). 32 * n) seven in
      rw (sum_of_append (drawn pairs values) stop, between)

  pub scan_of_symbol : scanned (symbol digits) ≡ made digits
  unfolding scanned symbol
  scan_of_symbol =
      let scan = subst (λ (n : ℕ). between start stop pairs 10 n (start ++ drawn pairs values ++ stop) ≡ made values) seven (between_of_drawn start stop pairs 10 sized_pairs values within distinct_pairs) in
      rw scan (ap made (unpaired_of_paired 7 digits e below))

pub symbol_of_scan : (widths digits : List ℕ) → scanned widths ≡ made digits → (symbol digits ≡ widths) × (length digits ≡ 14) × Below 10 digits
unfolding scanned symbol
symbol_of_scan widths digits o =
    let s = bind_made (between start stop pairs 10 7 widths) (λ (values : List ℕ). made (unpaired values)) digits o in
    let values = s.0 in
    let d = drawn_of_between start stop pairs 10 7 widths values s.1 in
    subst (λ (ds : List ℕ). (symbol ds ≡ widths) × (length ds ≡ 14) × Below 10 ds) (made_same (unpaired values) digits s.2) (
      ap (λ (vs : List ℕ). start ++ drawn pairs vs ++ stop) (paired_of_unpaired values) ∙ d.0,
      length_unpaired values ∙ ap (λ (n : ℕ). 2 * n) d.1,
      unpaired_digits values (rw length_pairs at d.2),
    )

pub widths_below : (digits : List ℕ) → length digits ≡ 14 → Below 10 digits → Below 10 (symbol digits)
unfolding symbol pairs
widths_below digits long below =
    below_append 10 (start ++ drawn pairs (paired digits)) stop
    (below_append 10 start (drawn pairs (paired digits)) (row_below 10 start tt) (drawn_below 10 pairs tt (paired digits)))
    (row_below 10 stop tt)
