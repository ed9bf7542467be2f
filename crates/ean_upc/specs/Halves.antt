-- A symbol of two halves, document 01: "guard 111, six characters in A or B, centre 11111, six in set C, guard 111"; "the same guards, four in
-- A, four in C". A list is tested for its count, then every guard, then every character; the places of the right half go on from the left's.
use Rattle.std.specs.Prelude.{ℕ, ◌+◌, ◌*◌, Bool, ◌&&◌, List, ◌++◌, length, take, drop, eqb}
use Rattle.refusal.specs.declared.Refusal.TheVariants.{Count, Guard}
use Rattle.refusal.specs.Outcome.{Outcome, made, ◌>>=◌, ◌>>◌, must}
use Rattle.patterns.specs.Patterns.{same, drawn, characters}
use Rattle.ean_upc.specs.declared.tables.Sets.{Sets}
use Rattle.ean_upc.specs.declared.tables.Sets.TheVariants.{A, AOrB, C}
use Rattle.ean_upc.specs.Tables.{set_a, set_b, set_c, guard, centre}

-- a half's patterns: in A or B ten more than the digit is the digit in set B
abbrev pub patterns_of : Sets → List (List ℕ)
patterns_of A = set_a
patterns_of AOrB = set_a ++ set_b
patterns_of C = set_c

unfoldable pub halves_drawn : Sets → List ℕ → List ℕ → List ℕ
halves_drawn sets left right = guard ++ drawn (patterns_of sets) left ++ centre ++ drawn set_c right ++ guard

-- three guards, and between them halves of n characters each
unfoldable pub guarded : ℕ → List ℕ → Bool
guarded n widths =
    same (take 3 widths) guard && same (take 5 (drop (3 + 4 * n) widths)) centre && same (drop (3 + 4 * n + 5 + 4 * n) widths) guard

-- the values of n characters and of n more: refusals 1, 4 and 5
unfoldable pub halves_in : Sets → ℕ → List ℕ → Outcome (List ℕ)
halves_in sets n widths = do
  must (eqb (length widths) (3 + 4 * n + 5 + 4 * n + 3)) Count
  must (guarded n widths) Guard
  left ← characters (patterns_of sets) 4 n 0 (drop 3 widths)
  right ← characters set_c 4 n n (drop (3 + 4 * n + 5) widths)
  made (left ++ right)
