-- Document 01, "Code 128 characters": "Check: start value plus each value times its place (first FNC1 is place 1), modulo 103."
use Rattle.std.specs.Prelude.{ℕ, zero, suc, ◌+◌, ◌*◌, ◌%◌, List, [], ◌∷◌}

-- each value times its place, the first of them at `place`
unfoldable pub placed : ℕ → List ℕ → ℕ
placed place [] = zero
placed place (value ∷ values) = place * value + placed (suc place) values

unfoldable pub check_of : ℕ → List ℕ → ℕ
check_of start values = (start + placed 1 values) % 103
