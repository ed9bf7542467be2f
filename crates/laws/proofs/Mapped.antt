-- Parts of a list that each element of has been mapped: map goes through take, drop and set.
use Prim.Native.Nat.{ℕ, zero, suc}
use mathlib.Core.Path.{◌≡◌, refl, ap}
use mathlib.Core.List.{List, [], ◌∷◌, map}
use lib.ListN.{take, drop, set}

module _ {A B : Type 0} (f : A → B) where
  pub take_map : (n : ℕ) (xs : List A) → take n (map f xs) ≡ map f (take n xs)
  take_map zero xs = refl
  take_map (suc n) [] = refl
  take_map (suc n) (x ∷ xs) = ap (λ (rest : List B). f x ∷ rest) (take_map n xs)

  pub drop_map : (n : ℕ) (xs : List A) → drop n (map f xs) ≡ map f (drop n xs)
  drop_map zero xs = refl
  drop_map (suc n) [] = refl
  drop_map (suc n) (x ∷ xs) = drop_map n xs

  pub set_map : (xs : List A) (i : ℕ) (a : A) → set (map f xs) i (f a) ≡ map f (set xs i a)
  set_map [] i a = refl
  set_map (x ∷ xs) zero a = refl
  set_map (x ∷ xs) (suc i) a = ap (λ (rest : List B). f x ∷ rest) (set_map xs i a)
