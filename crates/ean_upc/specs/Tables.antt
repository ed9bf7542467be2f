-- Document 01, "Numbers and check digit": the widths of digits 0 to 9 in each set, and the guards of EAN symbols.
use Rattle.std.specs.Prelude.{ℕ, List, [], ◌∷◌, map, reverse}

-- "set A, from a space"
abbrev pub set_a : List (List ℕ)
set_a =
    (3 ∷ 2 ∷ 1 ∷ 1 ∷ [])
    ∷ (2 ∷ 2 ∷ 2 ∷ 1 ∷ [])
    ∷ (2 ∷ 1 ∷ 2 ∷ 2 ∷ [])
    ∷ (1 ∷ 4 ∷ 1 ∷ 1 ∷ [])
    ∷ (1 ∷ 1 ∷ 3 ∷ 2 ∷ [])
    ∷ (1 ∷ 2 ∷ 3 ∷ 1 ∷ [])
    ∷ (1 ∷ 1 ∷ 1 ∷ 4 ∷ [])
    ∷ (1 ∷ 3 ∷ 1 ∷ 2 ∷ [])
    ∷ (1 ∷ 2 ∷ 1 ∷ 3 ∷ [])
    ∷ (3 ∷ 1 ∷ 1 ∷ 2 ∷ [])
    ∷ []

-- "Set B has each reversed, also from a space"
abbrev pub set_b : List (List ℕ)
set_b = map reverse set_a

-- "Set C has the widths of A from a bar"
abbrev pub set_c : List (List ℕ)
set_c = set_a

abbrev pub guard : List ℕ
guard = 1 ∷ 1 ∷ 1 ∷ []

abbrev pub centre : List ℕ
centre = 1 ∷ 1 ∷ 1 ∷ 1 ∷ 1 ∷ []
