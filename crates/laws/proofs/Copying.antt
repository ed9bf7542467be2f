-- A loop that copies one list over the front of another, an element a turn: after i turns it holds i elements of the first list, and
-- after them what it held, so each turn moves the seam by one.
use Prim.Native.Nat.{ℕ, suc, ◌+◌, ◌≤◌, ◌<◌}
use mathlib.Core.Path.{◌≡◌, sym, ap₂, ◌∙◌}
use mathlib.Core.List.{List, ◌++◌, map, append-nil}
use native.Mathlib.Numerals.{add-one}
use native.Mathlib.Omega.{arith}
use lib.ListN.{length, get_or, set, take, drop, length-map, drop_of_length-le, get_or-map}
use lib.Seq.{length-take-le, take_all, take-suc, drop-cons, append_snoc, set_at}

module _ {A : Type 0} (xs ys : List A) where
  pub copied_more : (i : ℕ) (d : A) → i < length xs → i < length ys → set (take i xs ++ drop i ys) i (get_or xs i d) ≡ take (i + 1) xs ++ drop (i + 1) ys
  copied_more i d hx hy =
      rw (drop-cons ys i d hy, add-one, take-suc xs i d hx)
      (set_at (take i xs) (get_or ys i d) (drop (suc i) ys) (get_or xs i d) i (length-take-le i xs (omega arith))
      ∙ sym (append_snoc (take i xs) (get_or xs i d) (drop (suc i) ys)))

  -- past the end of both, nothing of the second is left
  pub copied_whole : (i : ℕ) → length xs ≤ i → length ys ≤ i → take i xs ++ drop i ys ≡ xs
  copied_whole i hx hy =
      ap₂ (λ (front back : List A). front ++ back) (take_all i xs hx) (drop_of_length-le ys {i = i} hy) ∙ append-nil xs

-- the elements of a third list, each mapped
module _ {A B : Type 0} (f : A → B) (xs : List A) (ys : List B) where
  pub mapped_more : (i : ℕ) (d : A) → i < length xs → i < length ys → set (take i (map f xs) ++ drop i ys) i (f (get_or xs i d)) ≡ take (i + 1) (map f xs) ++ drop (i + 1) ys
  mapped_more i d hx hy = rw (← get_or-map f xs i d) (copied_more (map f xs) ys i (f d) (rw length-map hx) hy)

  pub mapped_whole : (i : ℕ) → length xs ≤ i → length ys ≤ i → take i (map f xs) ++ drop i ys ≡ map f xs
  mapped_whole i hx hy = copied_whole (map f xs) ys i (rw length-map hx) hy
