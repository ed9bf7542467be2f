-- Document 01, "Examples on each side": "A line ends at byte 10; bytes left after the last one are a line". In the same way a word of a
-- line ends at a space or with the line. So a part ends at the first byte that fails `other_than` its end, or with the bytes.
use Rattle.std.specs.Prelude.{ℕ, Bool, not, cond, List, [], ◌∷◌, eqb}

abbrev pub other_than : ℕ → ℕ → Bool
other_than end byte = not (eqb byte end)

-- a byte more at the front of the first part
abbrev pub longer : ℕ → List (List ℕ) → List (List ℕ)
longer byte [] = (byte ∷ []) ∷ []
longer byte (part ∷ parts) = (byte ∷ part) ∷ parts

-- bytes cut at each `end`: the parts between, one more than there are ends
unfoldable pub cut_at : ℕ → List ℕ → List (List ℕ)
cut_at end [] = [] ∷ []
cut_at end (byte ∷ bytes) = cond (eqb byte end) ([] ∷ cut_at end bytes) (longer byte (cut_at end bytes))
