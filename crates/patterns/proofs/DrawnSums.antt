-- Where every pattern of a table has the same sum, the widths of some values sum to that many for each value.
use Prim.Native.Nat.{ℕ, ◌+◌, ◌*◌, ◌<◌}
use mathlib.Core.Path.{◌≡◌, sym, ap₂, ◌∙◌}
use mathlib.Core.Bool.{Bool}
use mathlib.Core.List.{List, [], ◌∷◌}
use native.Mathlib.Nat.{mul-zero, mul-suc, add_comm}
use lib.Dec.{T, eqb, eqb→eq}
use lib.ListN.{length, get_or}
use Rattle.laws.specs.Below.{Below}
use Rattle.laws.specs.Sum.{sum}
use Rattle.laws.proofs.BelowLaws.{below_first, below_rest}
use Rattle.laws.proofs.SumLaws.{sum_of_append}
use Rattle.laws.proofs.Tables.{every, at_entry}
use Rattle.patterns.specs.Patterns.{drawn}

-- every pattern sums to `total`: a test that is computed over the table
abbrev pub summing : ℕ → List (List ℕ) → Bool
summing total patterns = every (λ (k : ℕ) (pattern : List ℕ). eqb (sum pattern) total) patterns

module _ (patterns : List (List ℕ)) (total : ℕ) (sums : T (summing total patterns)) where
  pub sum_at : (v : ℕ) → v < length patterns → sum (get_or patterns v []) ≡ total
  sum_at v h = eqb→eq _ total (at_entry (λ (k : ℕ) (pattern : List ℕ). eqb (sum pattern) total) [] patterns sums v h)

  pub sum_of_drawn : (values : List ℕ) → Below (length patterns) values → sum (drawn patterns values) ≡ total * length values
  unfolding drawn sum
  sum_of_drawn [] within = sym (mul-zero total)
  sum_of_drawn (v ∷ values) within =
      sum_of_append (get_or patterns v []) (drawn patterns values)
      ∙ ap₂ (λ (a b : ℕ). a + b) (sum_at v (below_first _ v values within)) (sum_of_drawn values (below_rest _ v values within))
      ∙ add_comm total (total * length values)
      ∙ sym (mul-suc total (length values))
