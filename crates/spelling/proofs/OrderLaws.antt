-- The order of spellings is total and transitive, a value put before both keeps it, and fewer characters always come before more; each by
-- the first values, which are less, equal or greater.
use Prim.Native.Nat.{ℕ, zero, suc, ◌≤◌, ◌<◌}
use mathlib.Core.Path.{◌≡◌, refl, sym, ap}
use mathlib.Core.Bool.{Bool, true, false, cond}
use mathlib.Core.List.{List, [], ◌∷◌}
use mathlib.Core.Logic.{◌⊎◌, inl, inr, ◌↔◌}
use native.Mathlib.Nat.{le_of_suc-le-suc, not-suc-le-zero, suc_inj}
use native.Mathlib.Omega.{arith}
use lib.ListN.{length, take, get_or}
use lib.Dec.{eqb, ltb}
use borrow.Author.Tests.{lt-ltb, le-ltb, eq-eqb, ne_eqb, ltb-true, ltb-false, eqb-true, eqb-false}
use Rattle.spelling.specs.Best.{less_or, comes_first, Precedes, better, better_of}

-- what a test passes by: less, or equal and a further test
module _ (x y : ℕ) (further : Bool) where
  less_or_further : less_or x y further ≡ true → (x < y) ⊎ ((x ≡ y) × (further ≡ true))
  less_or_further e = less (ltb x y) refl e
    where
      equal : (b : Bool) → eqb x y ≡ b → cond b further false ≡ true → (x < y) ⊎ ((x ≡ y) × (further ≡ true))
      equal true p e = inr (eqb-true x y p, e)
      equal false p e = absurd (let z : ◌≡◌ {A = ℕ} 0 1 = cc in omega arith)

      less : (b : Bool) → ltb x y ≡ b → cond b true (cond (eqb x y) further false) ≡ true → (x < y) ⊎ ((x ≡ y) × (further ≡ true))
      less true p e = inl (ltb-true x y p)
      less false p e = equal (eqb x y) refl e

  by_less : x < y → less_or x y further ≡ true
  by_less h = rw (lt-ltb x y h)

  by_further : x ≡ y → further ≡ true → less_or x y further ≡ true
  by_further h e = rw (le-ltb x y (omega arith), eq-eqb x y h, e)

-- of two the one or the other comes first, whatever decides where they are equal
less_total : (x y : ℕ) (further back : Bool) → less_or x y further ≡ false → (further ≡ false → back ≡ true) → less_or y x back ≡ true
less_total x y further back e rest = less (ltb x y) refl e
  where
    equal : (b : Bool) → y ≤ x → eqb x y ≡ b → cond b further false ≡ false → less_or y x back ≡ true
    equal true h p e = by_further y x back (sym (eqb-true x y p)) (rest e)
    equal false h p e = by_less y x back (omega (arith, eqb-false x y p))

    less : (b : Bool) → ltb x y ≡ b → cond b true (cond (eqb x y) further false) ≡ false → less_or y x back ≡ true
    less true p e = absurd (let z : ◌≡◌ {A = ℕ} 0 1 = cc in omega arith)
    less false p e = equal (eqb x y) (ltb-false x y p) refl e

less_trans : (x y z : ℕ) (one two three : Bool) → less_or x y one ≡ true → less_or y z two ≡ true → (one ≡ true → two ≡ true → three ≡ true) → less_or x z three ≡ true
less_trans x y z one two three e d rest = go (less_or_further x y one e) (less_or_further y z two d)
  where
    go : (x < y) ⊎ ((x ≡ y) × (one ≡ true)) → (y < z) ⊎ ((y ≡ z) × (two ≡ true)) → less_or x z three ≡ true
    go (inl h) (inl k) = by_less x z three (omega arith)
    go (inl h) (inr k) = by_less x z three (omega (arith, k.0))
    go (inr h) (inl k) = by_less x z three (omega (arith, h.0))
    go (inr h) (inr k) = by_further x z three (omega (arith, h.0, k.0)) (rest h.1 k.1)

pub first_by_less : (x y : ℕ) (xs ys : List ℕ) → x < y → comes_first (x ∷ xs) (y ∷ ys) ≡ true
unfolding comes_first
first_by_less x y xs ys h = by_less x y (comes_first xs ys) h

pub first_same_head : (x : ℕ) (xs ys : List ℕ) → comes_first xs ys ≡ true → comes_first (x ∷ xs) (x ∷ ys) ≡ true
unfolding comes_first
first_same_head x xs ys e = by_further x x (comes_first xs ys) refl e

pub first_refl : (xs : List ℕ) → comes_first xs xs ≡ true
unfolding comes_first
first_refl [] = refl
first_refl (x ∷ xs) = first_same_head x xs xs (first_refl xs)

pub first_total : (xs ys : List ℕ) → comes_first xs ys ≡ false → comes_first ys xs ≡ true
unfolding comes_first
first_total [] ys e = absurd (let z : ◌≡◌ {A = ℕ} 0 1 = cc in omega arith)
first_total (x ∷ xs) [] e = refl
first_total (x ∷ xs) (y ∷ ys) e = less_total x y (comes_first xs ys) (comes_first ys xs) e (first_total xs ys)

pub first_trans : (xs ys zs : List ℕ) → comes_first xs ys ≡ true → comes_first ys zs ≡ true → comes_first xs zs ≡ true
unfolding comes_first
first_trans [] ys zs e d = refl
first_trans (x ∷ xs) [] zs e d = absurd (let z : ◌≡◌ {A = ℕ} 0 1 = cc in omega arith)
first_trans (x ∷ xs) (y ∷ ys) [] e d = absurd (let z : ◌≡◌ {A = ℕ} 0 1 = cc in omega arith)
first_trans (x ∷ xs) (y ∷ ys) (z ∷ zs) e d = less_trans x y z (comes_first xs ys) (comes_first ys zs) (comes_first xs zs) e d (first_trans xs ys zs)

means_precedes : (xs ys : List ℕ) → length xs ≡ length ys → comes_first xs ys ≡ true → (xs ≡ ys) ⊎ Precedes xs ys
unfolding comes_first
means_precedes [] [] same e = inl refl
means_precedes [] (y ∷ ys) same e = absurd (omega arith)
means_precedes (x ∷ xs) [] same e = absurd (omega arith)
means_precedes (x ∷ xs) (y ∷ ys) same e = go (less_or_further x y (comes_first xs ys) e) (means_precedes xs ys (suc_inj same))
  where
    later : x ≡ y → (xs ≡ ys) ⊎ Precedes xs ys → (x ∷ xs ≡ y ∷ ys) ⊎ Precedes (x ∷ xs) (y ∷ ys)
    later h (inl e) = inl (cc)
    later h (inr d) = inr (record { place = suc d.place; within = omega (arith, d.within); before = let b = d.before in cc; smaller = d.smaller })

    go : (x < y) ⊎ ((x ≡ y) × (comes_first xs ys ≡ true)) → (comes_first xs ys ≡ true → (xs ≡ ys) ⊎ Precedes xs ys) → (x ∷ xs ≡ y ∷ ys) ⊎ Precedes (x ∷ xs) (y ∷ ys)
    go (inl h) rest = inr (record { place = 0; within = omega arith; before = refl; smaller = h })
    go (inr h) rest = later h.0 (rest h.1)

smaller_at : (place : ℕ) (xs ys : List ℕ) → length xs ≡ length ys → place < length xs → take place xs ≡ take place ys → get_or xs place 0 < get_or ys place 0 → comes_first xs ys ≡ true
smaller_at place [] ys same within before smaller = absurd (not-suc-le-zero within)
smaller_at place (x ∷ xs) [] same within before smaller = absurd (omega arith)
smaller_at zero (x ∷ xs) (y ∷ ys) same within before smaller = first_by_less x y xs ys smaller
smaller_at (suc place) (x ∷ xs) (y ∷ ys) same within before smaller =
    let head : y ≡ x = cc in
    let rest : take place xs ≡ take place ys = cc in
    rw head (first_same_head x xs ys (smaller_at place xs ys (suc_inj same) (le_of_suc-le-suc within) rest smaller))

-- what the order of lists of one length means
pub first_means : (xs ys : List ℕ) → length xs ≡ length ys → (comes_first xs ys ≡ true) ↔ ((xs ≡ ys) ⊎ Precedes xs ys)
first_means xs ys same = (means_precedes xs ys same, back)
  where
    back : (xs ≡ ys) ⊎ Precedes xs ys → comes_first xs ys ≡ true
    back (inl e) = rw e (first_refl ys)
    back (inr d) = smaller_at d.place xs ys same d.within d.before d.smaller

-- what is better: fewer, or as many and first
pub better_cases : (xs ys : List ℕ) → better xs ys ≡ true → (length xs < length ys) ⊎ ((length xs ≡ length ys) × (comes_first xs ys ≡ true))
unfolding better
better_cases xs ys e = less_or_further (length xs) (length ys) (comes_first xs ys) e

pub better_fewer : (xs ys : List ℕ) → length xs < length ys → better xs ys ≡ true
unfolding better
better_fewer xs ys h = by_less (length xs) (length ys) (comes_first xs ys) h

pub better_first : (xs ys : List ℕ) → length xs ≡ length ys → comes_first xs ys ≡ true → better xs ys ≡ true
unfolding better
better_first xs ys h e = by_further (length xs) (length ys) (comes_first xs ys) h e

pub worse_more : (xs ys : List ℕ) → length ys < length xs → better xs ys ≡ false
unfolding better
worse_more xs ys h = rw (le-ltb (length xs) (length ys) (omega arith), ne_eqb (length xs) (length ys) (omega arith))

pub better_length : (xs ys : List ℕ) → better xs ys ≡ true → length xs ≤ length ys
better_length xs ys e = go (better_cases xs ys e)
  where
    go : (length xs < length ys) ⊎ ((length xs ≡ length ys) × (comes_first xs ys ≡ true)) → length xs ≤ length ys
    go (inl h) = omega arith
    go (inr h) = omega (arith, h.0)

pub better_refl : (xs : List ℕ) → better xs xs ≡ true
better_refl xs = better_first xs xs refl (first_refl xs)

pub better_total : (xs ys : List ℕ) → better xs ys ≡ false → better ys xs ≡ true
unfolding better
better_total xs ys e = less_total (length xs) (length ys) (comes_first xs ys) (comes_first ys xs) e (first_total xs ys)

pub better_trans : (xs ys zs : List ℕ) → better xs ys ≡ true → better ys zs ≡ true → better xs zs ≡ true
unfolding better
better_trans xs ys zs e d = less_trans (length xs) (length ys) (length zs) (comes_first xs ys) (comes_first ys zs) (comes_first xs zs) e d (first_trans xs ys zs)

pub better_same_head : (x : ℕ) (xs ys : List ℕ) → better xs ys ≡ true → better (x ∷ xs) (x ∷ ys) ≡ true
better_same_head x xs ys e = go (better_cases xs ys e)
  where
    go : (length xs < length ys) ⊎ ((length xs ≡ length ys) × (comes_first xs ys ≡ true)) → better (x ∷ xs) (x ∷ ys) ≡ true
    go (inl h) = better_fewer (x ∷ xs) (x ∷ ys) (omega arith)
    go (inr h) = better_first (x ∷ xs) (x ∷ ys) (ap suc h.0) (first_same_head x xs ys h.1)

-- the better of two is one of them, and better than both
pub better_of_two : (P : List ℕ → Type 0) (xs ys : List ℕ) → P xs → P ys → P (better_of xs ys)
better_of_two P xs ys p q = go (better xs ys)
  where
    go : (b : Bool) → P (cond b xs ys)
    go true = p
    go false = q

pub better_than_left : (xs ys : List ℕ) → better (better_of xs ys) xs ≡ true
better_than_left xs ys = go (better xs ys) refl
  where
    go : (b : Bool) → better xs ys ≡ b → better (cond b xs ys) xs ≡ true
    go true e = better_refl xs
    go false e = better_total xs ys e

pub better_than_right : (xs ys : List ℕ) → better (better_of xs ys) ys ≡ true
better_than_right xs ys = go (better xs ys) refl
  where
    go : (b : Bool) → better xs ys ≡ b → better (cond b xs ys) ys ≡ true
    go true e = e
    go false e = better_refl ys
