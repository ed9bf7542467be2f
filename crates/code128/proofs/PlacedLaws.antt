-- Values times their places: a loop that goes up meets one term a turn, a store changes one term, and an exchange of neighbours two.
use Prim.Native.Nat.{ℕ, zero, suc, ◌+◌, ◌*◌, ◌≤◌, ◌<◌}
use mathlib.Core.Path.{◌≡◌}
use mathlib.Core.List.{List, [], ◌∷◌, ◌++◌}
use native.Mathlib.Nat.{le_of_suc-le-suc, not-suc-le-zero, add-zero, mul-le-mul}
use native.Mathlib.Omega.{arith}
use lib.ListN.{length, get_or, set, drop, drop_of_length-le}
use lib.Seq.{drop-cons}
use Rattle.laws.specs.Exchanged.{exchanged}
use Rattle.code128.specs.Check.{placed}

pub placed_more : (place : ℕ) (values : List ℕ) (i d : ℕ) → i < length values → placed place (drop i values) ≡ place * get_or values i d + placed (suc place) (drop (suc i) values)
unfolding placed
placed_more place values i d h = rw (drop-cons values i d h)

pub placed_over : (place : ℕ) (values : List ℕ) (i : ℕ) → length values ≤ i → placed place (drop i values) ≡ 0
unfolding placed
placed_over place values i h = rw (drop_of_length-le values {i = i} h)

pub placed_last : (place : ℕ) (values : List ℕ) (x : ℕ) → placed place (values ++ (x ∷ [])) ≡ placed place values + (place + length values) * x
unfolding placed
placed_last place [] x = rw (add-zero place) (omega arith)
placed_last place (y ∷ ys) x =
    let on : suc place + length ys ≡ place + suc (length ys) = omega arith in
    omega (arith, rw on at (placed_last (suc place) ys x))

pub placed_set : (place : ℕ) (values : List ℕ) (i x d : ℕ) → i < length values → placed place (set values i x) + (place + i) * get_or values i d ≡ placed place values + (place + i) * x
unfolding placed
placed_set place [] i x d h = absurd (not-suc-le-zero h)
placed_set place (y ∷ ys) zero x d h = rw add-zero (omega arith)
placed_set place (y ∷ ys) (suc i) x d h =
    let on : suc place + i ≡ place + suc i = omega arith in
    omega (arith, rw on at (placed_set (suc place) ys i x d (le_of_suc-le-suc h)))

pub placed_exchanged : (place : ℕ) (values : List ℕ) (i d : ℕ) → suc i < length values
    → placed place (exchanged i values) + ((place + i) * get_or values i d + (place + i + 1) * get_or values (suc i) d)
    ≡ placed place values + ((place + i) * get_or values (suc i) d + (place + i + 1) * get_or values i d)
unfolding placed
placed_exchanged place [] i d h = absurd (not-suc-le-zero h)
placed_exchanged place (x ∷ []) zero d h = absurd (omega arith)
placed_exchanged place (x ∷ y ∷ rest) zero d h = rw add-zero (omega arith)
placed_exchanged place (x ∷ xs) (suc i) d h =
    let on : suc place + i ≡ place + suc i = omega arith in
    omega (arith, rw on at (placed_exchanged (suc place) xs i d (le_of_suc-le-suc h)))

-- a byte times a place up to 102
pub term_most : (place value : ℕ) → place ≤ 102 → value < 256 → place * value ≤ 26010
term_most place value hp hv = mul-le-mul hp (le_of_suc-le-suc hv)
