-- The sum of a list of numbers.
use Rattle.std.specs.Prelude.{ℕ, zero, ◌+◌, List, [], ◌∷◌}

unfoldable pub sum : List ℕ → ℕ
sum [] = zero
sum (x ∷ xs) = x + sum xs
