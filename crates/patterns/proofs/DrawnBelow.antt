-- Where every width of a table is below a bound, so is every width that is drawn: a value that has no pattern draws nothing.
use Prim.Native.Nat.{ℕ, ◌<◌}
use mathlib.Core.Bool.{Bool}
use mathlib.Core.List.{List, [], ◌∷◌}
use native.Mathlib.Decide.{dec_lt}
use native.Mathlib.Omega.{arith}
use lib.ListN.{length, get_or, get_or-eq_default}
use lib.Dec.{T, ltb, ltb→lt}
use Rattle.laws.specs.Below.{Below}
use Rattle.laws.proofs.BelowLaws.{below_append, below_of_nil}
use Rattle.laws.proofs.Tables.{every, at_entry}
use Rattle.patterns.specs.Patterns.{drawn}

module _ (bound : ℕ) where
  -- tests that are computed over a row, and over a table
  abbrev pub small : List ℕ → Bool
  small row = every (λ (k width : ℕ). ltb width bound) row

  abbrev pub all_small : List (List ℕ) → Bool
  all_small patterns = every (λ (k : ℕ) (row : List ℕ). small row) patterns

  pub row_below : (row : List ℕ) → T (small row) → Below bound row
  row_below row t i h = ltb→lt _ bound (at_entry (λ (k width : ℕ). ltb width bound) 0 row t i h)

  module _ (patterns : List (List ℕ)) (t : T (all_small patterns)) where
    pattern_below : (v : ℕ) → Below bound (get_or patterns v [])
    pattern_below v = go (dec_lt v (length patterns))
      where
        go : Dec (v < length patterns) → Below bound (get_or patterns v [])
        go (yes below) = row_below (get_or patterns v []) (at_entry (λ (k : ℕ) (row : List ℕ). small row) [] patterns t v below)
        go (no beyond) = rw (get_or-eq_default patterns [] {n = v} (omega arith)) (below_of_nil bound)

    pub drawn_below : (values : List ℕ) → Below bound (drawn patterns values)
    unfolding drawn
    drawn_below [] = below_of_nil bound
    drawn_below (v ∷ values) = below_append bound (get_or patterns v []) (drawn patterns values) (pattern_below v) (drawn_below values)
