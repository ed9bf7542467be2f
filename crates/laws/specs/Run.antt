-- Numbers in order.
use Rattle.std.specs.Prelude.{ℕ, zero, suc, List, [], ◌∷◌}

-- `count` numbers, from `first` on
abbrev pub run : ℕ → ℕ → List ℕ
run first zero = []
run first (suc count) = first ∷ run (suc first) count
