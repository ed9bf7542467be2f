-- Document 01: a symbol character is a row of widths, and its value the row's place in the table of patterns. Refusal 5: "widths match no
-- pattern allowed there", at the "first such symbol character, from 0".
use Rattle.std.specs.Prelude.{ℕ, zero, suc, Bool, true, false, not, ◌&&◌, List, [], ◌∷◌, ◌++◌, length, get_or, take, drop, eqb, ltb}
use Rattle.laws.specs.First.{first_not}
use Rattle.refusal.specs.declared.Refusal.TheVariants.{Pattern}
use Rattle.refusal.specs.Outcome.{Outcome, made, ◌>>=◌, ◌>>◌, must}

unfoldable pub same : List ℕ → List ℕ → Bool
same [] [] = true
same [] (y ∷ ys) = false
same (x ∷ xs) [] = false
same (x ∷ xs) (y ∷ ys) = eqb x y && same xs ys

-- the place of the pattern that the widths equal, or the count of patterns where they equal none
unfoldable pub value_in : List (List ℕ) → List ℕ → ℕ
value_in patterns widths = first_not (λ pattern. not (same pattern widths)) patterns

unfoldable pub drawn : List (List ℕ) → List ℕ → List ℕ
drawn patterns [] = []
drawn patterns (value ∷ values) = get_or patterns value [] ++ drawn patterns values

-- `count` characters of `size` widths each, the first of them at `place`
unfoldable pub characters : List (List ℕ) → ℕ → ℕ → ℕ → List ℕ → Outcome (List ℕ)
characters patterns size zero place widths = made []
characters patterns size (suc count) place widths = do
  must (ltb (value_in patterns (take size widths)) (length patterns)) (Pattern place)
  values ← characters patterns size count (suc place) (drop size widths)
  made (value_in patterns (take size widths) ∷ values)
