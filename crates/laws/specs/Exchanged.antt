-- Two neighbours of a list exchanged.
use Rattle.std.specs.Prelude.{ℕ, zero, suc, List, [], ◌∷◌}

-- the elements at i and i + 1 change places, where there are two
abbrev pub exchanged : {A : Type 0} → ℕ → List A → List A
exchanged zero [] = []
exchanged zero (x ∷ []) = x ∷ []
exchanged zero (x ∷ y ∷ rest) = y ∷ x ∷ rest
exchanged (suc i) [] = []
exchanged (suc i) (x ∷ xs) = x ∷ exchanged i xs
