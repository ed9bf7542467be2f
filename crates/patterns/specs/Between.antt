-- Characters between a start and a stop: the count of widths is tested first, then both ends, then every character.
use Rattle.std.specs.Prelude.{ℕ, ◌+◌, ◌*◌, ◌&&◌, List, length, take, drop, eqb}
use Rattle.refusal.specs.declared.Refusal.TheVariants.{Count, Guard}
use Rattle.refusal.specs.Outcome.{Outcome, ◌>>◌, must}
use Rattle.patterns.specs.Patterns.{same, characters}

-- `count` characters of `size` widths each: refusals 1, 4 and 5
unfoldable pub between : List ℕ → List ℕ → List (List ℕ) → ℕ → ℕ → List ℕ → Outcome (List ℕ)
between start stop patterns size count widths = do
  must (eqb (length widths) (length start + size * count + length stop)) Count
  must (same (take (length start) widths) start && same (drop (length start + size * count) widths) stop) Guard
  characters patterns size count 0 (drop (length start) widths)
