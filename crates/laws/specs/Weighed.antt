-- A weighed sum whose weights are counted from the right end of the list.
use Rattle.std.specs.Prelude.{ℕ, zero, ◌+◌, ◌*◌, List, [], ◌∷◌, length}

-- `weight k` is the weight of the element that has k elements to its right
unfoldable pub weighed : (ℕ → ℕ) → List ℕ → ℕ
weighed weight [] = zero
weighed weight (x ∷ xs) = weight (length xs) * x + weighed weight xs
