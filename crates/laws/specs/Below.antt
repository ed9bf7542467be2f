-- Lists of numbers that all lie below a bound.
use Rattle.std.specs.Prelude.{ℕ, ◌<◌, List, length, get_or}

abbrev pub Below : ℕ → List ℕ → Type 0
Below bound xs = (i : ℕ) → i < length xs → get_or xs i 0 < bound
