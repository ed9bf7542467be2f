-- Two neighbours of a list exchanged: each stands where the other stood, and all else where it was.
use Prim.Native.Nat.{ℕ, zero, suc, ◌<◌}
use mathlib.Core.Path.{◌≡◌, refl, ap}
use mathlib.Core.List.{List, [], ◌∷◌, ◌++◌, map}
use native.Mathlib.Nat.{le_of_suc-le-suc, not-suc-le-zero}
use lib.ListN.{length, get_or, set}
use Rattle.laws.specs.Exchanged.{exchanged}

module _ {A : Type 0} where
  pub length_exchanged : (i : ℕ) (xs : List A) → length (exchanged i xs) ≡ length xs
  length_exchanged zero [] = refl
  length_exchanged zero (x ∷ []) = refl
  length_exchanged zero (x ∷ y ∷ rest) = refl
  length_exchanged (suc i) [] = refl
  length_exchanged (suc i) (x ∷ xs) = ap suc (length_exchanged i xs)

  -- two stores do it
  pub exchanged_sets : (i : ℕ) (xs : List A) (d : A) → suc i < length xs → exchanged i xs ≡ set (set xs i (get_or xs (suc i) d)) (suc i) (get_or xs i d)
  exchanged_sets zero [] d h = absurd (not-suc-le-zero h)
  exchanged_sets zero (x ∷ []) d h = absurd (not-suc-le-zero (le_of_suc-le-suc h))
  exchanged_sets zero (x ∷ y ∷ rest) d h = refl
  exchanged_sets (suc i) [] d h = absurd (not-suc-le-zero h)
  exchanged_sets (suc i) (x ∷ xs) d h = ap (λ (rest : List A). x ∷ rest) (exchanged_sets i xs d (le_of_suc-le-suc h))

  pub exchanged_map : {B : Type 0} (f : A → B) (i : ℕ) (xs : List A) → exchanged i (map f xs) ≡ map f (exchanged i xs)
  exchanged_map f zero [] = refl
  exchanged_map f zero (x ∷ []) = refl
  exchanged_map f zero (x ∷ y ∷ rest) = refl
  exchanged_map f (suc i) [] = refl
  exchanged_map {B} f (suc i) (x ∷ xs) = ap (λ (rest : List B). f x ∷ rest) (exchanged_map f i xs)

  -- neighbours of the first of two lists that are joined
  pub exchanged_append : (i : ℕ) (xs ys : List A) → suc i < length xs → exchanged i (xs ++ ys) ≡ exchanged i xs ++ ys
  exchanged_append zero [] ys h = absurd (not-suc-le-zero h)
  exchanged_append zero (x ∷ []) ys h = absurd (not-suc-le-zero (le_of_suc-le-suc h))
  exchanged_append zero (x ∷ y ∷ rest) ys h = refl
  exchanged_append (suc i) [] ys h = absurd (not-suc-le-zero h)
  exchanged_append (suc i) (x ∷ xs) ys h = ap (λ (rest : List A). x ∷ rest) (exchanged_append i xs ys (le_of_suc-le-suc h))
