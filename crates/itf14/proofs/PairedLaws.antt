-- Digits taken two by two, and back: a pair's digits stand at twice its place and one further.
use Prim.Native.Nat.{ℕ, zero, suc, ◌+◌, ◌*◌, ◌/◌, ◌%◌, ◌<◌}
use mathlib.Core.Path.{◌≡◌, refl, ap, ap₂}
use mathlib.Core.List.{List, [], ◌∷◌}
use native.Mathlib.Nat.{le_of_suc-le-suc, not-suc-le-zero}
use native.Mathlib.Numerals.{add-one}
use native.Mathlib.Omega.{arith}
use lib.ListN.{length, get_or}
use Rattle.laws.specs.Below.{Below}
use Rattle.laws.proofs.BelowLaws.{below_rest, below_drop}
use Rattle.itf14.specs.Itf14.{paired, unpaired}

pub twice_more : (i : ℕ) → 2 * suc i ≡ suc (suc (2 * i))
twice_more i = omega arith

pub length_unpaired : (values : List ℕ) → length (unpaired values) ≡ 2 * length values
length_unpaired [] = refl
length_unpaired (v ∷ values) = rw (twice_more, length_unpaired values)

pub unpaired_first : (values : List ℕ) (i : ℕ) → get_or (unpaired values) (2 * i) 0 ≡ get_or values i 0 / 10
unpaired_first [] i = refl
unpaired_first (v ∷ values) zero = refl
unpaired_first (v ∷ values) (suc i) = rw twice_more (unpaired_first values i)

pub unpaired_second : (values : List ℕ) (i : ℕ) → get_or (unpaired values) (2 * i + 1) 0 ≡ get_or values i 0 % 10
unpaired_second [] i = refl
unpaired_second (v ∷ values) zero = refl
unpaired_second (v ∷ values) (suc i) = rw (add-one, twice_more, ← add-one (2 * i)) (unpaired_second values i)

pub paired_at : (digits : List ℕ) (i : ℕ) → 2 * i + 1 < length digits → get_or (paired digits) i 0 ≡ 10 * get_or digits (2 * i) 0 + get_or digits (2 * i + 1) 0
paired_at [] i h = absurd (not-suc-le-zero h)
paired_at (a ∷ []) i h = absurd (omega arith)
paired_at (a ∷ b ∷ digits) zero h = refl
paired_at (a ∷ b ∷ digits) (suc i) h = rw (add-one, twice_more, ← add-one (2 * i)) (paired_at digits i (omega arith))

-- the digits of pairs below a hundred are digits
pub unpaired_digits : (values : List ℕ) → Below 100 values → Below 10 (unpaired values)
unpaired_digits [] below i h = absurd (not-suc-le-zero h)
unpaired_digits (v ∷ values) below zero h = omega (arith, below 0 (omega arith))
unpaired_digits (v ∷ values) below (suc zero) h = omega arith
unpaired_digits (v ∷ values) below (suc (suc i)) h =
    unpaired_digits values (below_rest 100 v values below) i (le_of_suc-le-suc (le_of_suc-le-suc h))

pub paired_of_unpaired : (values : List ℕ) → paired (unpaired values) ≡ values
paired_of_unpaired [] = refl
paired_of_unpaired (v ∷ values) =
    let whole : 10 * (v / 10) + v % 10 ≡ v = omega arith in
    ap₂ (λ (w : ℕ) (ws : List ℕ). w ∷ ws) whole (paired_of_unpaired values)

pub length_paired : (n : ℕ) (digits : List ℕ) → length digits ≡ 2 * n → length (paired digits) ≡ n
length_paired zero [] e = refl
length_paired zero (a ∷ digits) e = absurd (omega arith)
length_paired (suc n) [] e = absurd (omega arith)
length_paired (suc n) (a ∷ []) e = absurd (omega arith)
length_paired (suc n) (a ∷ b ∷ digits) e = ap suc (length_paired n digits (omega arith))

pub paired_below : (n : ℕ) (digits : List ℕ) → length digits ≡ 2 * n → Below 10 digits → Below 100 (paired digits)
paired_below zero [] e below i h = absurd (not-suc-le-zero h)
paired_below zero (a ∷ digits) e below i h = absurd (omega arith)
paired_below (suc n) [] e below i h = absurd (omega arith)
paired_below (suc n) (a ∷ []) e below i h = absurd (omega arith)
paired_below (suc n) (a ∷ b ∷ digits) e below zero h = omega (arith, below 0 (omega arith), below 1 (omega arith))
paired_below (suc n) (a ∷ b ∷ digits) e below (suc i) h =
    paired_below n digits (omega arith) (below_drop 10 2 (a ∷ b ∷ digits) below) i (le_of_suc-le-suc h)

pub unpaired_of_paired : (n : ℕ) (digits : List ℕ) → length digits ≡ 2 * n → Below 10 digits → unpaired (paired digits) ≡ digits
unpaired_of_paired zero [] e below = refl
unpaired_of_paired zero (a ∷ digits) e below = absurd (omega arith)
unpaired_of_paired (suc n) [] e below = absurd (omega arith)
unpaired_of_paired (suc n) (a ∷ []) e below = absurd (omega arith)
unpaired_of_paired (suc n) (a ∷ b ∷ digits) e below =
    let small = below 1 (omega arith) in
    let first : (10 * a + b) / 10 ≡ a = omega arith in
    let second : (10 * a + b) % 10 ≡ b = omega arith in
    rw (first, second) (ap (λ (rest : List ℕ). a ∷ b ∷ rest) (unpaired_of_paired n digits (omega arith) (below_drop 10 2 (a ∷ b ∷ digits) below)))
