-- Bytes packed into one number: the first at the lowest place, each next one 256 times higher.
use Rattle.std.specs.Prelude.{ℕ, zero, ◌+◌, ◌*◌, List, [], ◌∷◌}

unfoldable pub packed : List ℕ → ℕ
packed [] = zero
packed (x ∷ xs) = x + 256 * packed xs
