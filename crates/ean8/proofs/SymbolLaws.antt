-- EAN-8, there and back: its halves are the first four digits and the last four.
use Prim.Native.Nat.{ℕ}
use mathlib.Core.Path.{◌≡◌, ap, ◌∙◌, subst}
use mathlib.Core.List.{List}
use native.Mathlib.Omega.{arith}
use lib.ListN.{length, take, drop, length-take, length-drop, take-append-drop}
use Rattle.laws.specs.Below.{Below}
use Rattle.laws.proofs.BelowLaws.{below_take, below_drop, below_append}
use Rattle.refusal.specs.Outcome.{made}
use Rattle.ean_upc.specs.declared.tables.Sets.TheVariants.{A}
use Rattle.ean_upc.proofs.HalvesLaws.{length_of_drawn, halves_of_drawn, drawn_of_halves, widths_below as halves_below}
use Rattle.ean8.specs.Ean8.{symbol, scanned}

module _ (digits : List ℕ) (long : length digits ≡ 8) (below : Below 10 digits) where
  four_left : length (take 4 digits) ≡ 4
  four_left = rw length-take (omega arith)

  four_right : length (drop 4 digits) ≡ 4
  four_right = rw length-drop (omega arith)

  pub length_of_symbol : length (symbol digits) ≡ 43
  unfolding symbol
  length_of_symbol = length_of_drawn A 4 (take 4 digits) (drop 4 digits) four_left four_right (below_take 10 4 digits below) (below_drop 10 4 digits below)

  pub scan_of_symbol : scanned (symbol digits) ≡ made digits
  unfolding symbol scanned
  scan_of_symbol =
      halves_of_drawn A 4 (take 4 digits) (drop 4 digits) four_left four_right (below_take 10 4 digits below) (below_drop 10 4 digits below)
      ∙ ap made (take-append-drop 4 digits)

pub symbol_of_scan : (widths digits : List ℕ) → scanned widths ≡ made digits → (symbol digits ≡ widths) × (length digits ≡ 8) × Below 10 digits
unfolding symbol scanned
symbol_of_scan widths digits e =
    let known = drawn_of_halves A 4 widths digits e in
    (known.drawn_again, known.counted, subst (Below 10) (take-append-drop 4 digits) (below_append 10 (take 4 digits) (drop 4 digits) known.left_below known.right_below))

pub widths_below : (digits : List ℕ) → length digits ≡ 8 → Below 10 digits → Below 10 (symbol digits)
unfolding symbol
widths_below digits long below = halves_below A _ _
