-- The front of a list, written out by its elements.
use Prim.Native.Nat.{ℕ, zero, suc, ◌≤◌}
use mathlib.Core.Path.{◌≡◌, refl, ap, ◌∙◌}
use mathlib.Core.List.{List, [], ◌∷◌}
use native.Mathlib.Nat.{le_of_suc-le-suc, not-suc-le-zero}
use native.Mathlib.Omega.{arith}
use lib.ListN.{length, get_or, take}
use lib.Seq.{take_all}

-- n elements from place i on
abbrev pub listed : ℕ → ℕ → List ℕ → List ℕ
listed i zero xs = []
listed i (suc n) xs = get_or xs i 0 ∷ listed (suc i) n xs

listed_rest : (n i x : ℕ) (xs : List ℕ) → listed (suc i) n (x ∷ xs) ≡ listed i n xs
listed_rest zero i x xs = refl
listed_rest (suc n) i x xs = ap (λ (rest : List ℕ). get_or xs i 0 ∷ rest) (listed_rest n (suc i) x xs)

pub listed_front : (n : ℕ) (xs : List ℕ) → n ≤ length xs → listed 0 n xs ≡ take n xs
listed_front zero xs h = refl
listed_front (suc n) [] h = absurd (not-suc-le-zero h)
listed_front (suc n) (x ∷ xs) h = ap (λ (rest : List ℕ). x ∷ rest) (listed_rest n 0 x xs ∙ listed_front n xs (le_of_suc-le-suc h))

pub listed_whole : (n : ℕ) (xs : List ℕ) → length xs ≡ n → listed 0 n xs ≡ xs
listed_whole n xs e = listed_front n xs (omega arith) ∙ take_all n xs (omega arith)
