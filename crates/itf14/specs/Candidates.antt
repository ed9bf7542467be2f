-- How a pair's value is found without a walk along the hundred: the wide elements of a digit weigh 1, 2, 4, 7 and nothing, and sum to the
-- digit; only 0, whose are 4 and 7, weighs more than 9. So the elements can be one digit alone, and the widths are compared with it.
use Rattle.std.specs.Prelude.{ℕ, ◌+◌, ◌*◌, cond, List, get_or, eqb, ltb}
use Rattle.itf14.specs.Tables.{W}

unfoldable pub wide_of : ℕ → ℕ
wide_of width = cond (eqb width W) 1 0

-- every second width is an element, from the first bar (0) or the first space (1) on
abbrev pub weight_at : ℕ → List ℕ → ℕ
weight_at from widths =
    wide_of (get_or widths from 0)
    + 2 * wide_of (get_or widths (from + 2) 0)
    + 4 * wide_of (get_or widths (from + 4) 0)
    + 7 * wide_of (get_or widths (from + 6) 0)

unfoldable pub candidate_at : ℕ → List ℕ → ℕ
candidate_at from widths = cond (ltb (weight_at from widths) 10) (weight_at from widths) 0
