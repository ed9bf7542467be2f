-- Values in sets A and B: letter and digit at each place, and both come back from the value.
use Prim.Native.Nat.{ℕ, zero, suc, ◌+◌, ◌*◌, ◌/◌, ◌%◌, ◌<◌}
use mathlib.Core.Path.{◌≡◌, refl, ap, ap₂}
use mathlib.Core.List.{List, [], ◌∷◌, map}
use native.Mathlib.Nat.{le_of_suc-le-suc, not-suc-le-zero, suc_inj}
use native.Mathlib.Omega.{arith}
use lib.ListN.{length, get_or, get_or-map}
use Rattle.laws.specs.Below.{Below}
use Rattle.laws.proofs.BelowLaws.{below_rest}
use Rattle.parity.specs.Letters.{in_sets}

pub length_in_sets : (letters digits : List ℕ) → length letters ≡ length digits → length (in_sets letters digits) ≡ length digits
length_in_sets [] [] e = refl
length_in_sets [] (d ∷ digits) e = absurd (omega arith)
length_in_sets (l ∷ letters) [] e = refl
length_in_sets (l ∷ letters) (d ∷ digits) e = ap suc (length_in_sets letters digits (suc_inj e))

pub in_sets_at : (letters digits : List ℕ) (i : ℕ) → i < length letters → i < length digits → get_or (in_sets letters digits) i 0 ≡ 10 * get_or letters i 0 + get_or digits i 0
in_sets_at [] digits i hl hd = absurd (not-suc-le-zero hl)
in_sets_at (l ∷ letters) [] i hl hd = absurd (not-suc-le-zero hd)
in_sets_at (l ∷ letters) (d ∷ digits) zero hl hd = refl
in_sets_at (l ∷ letters) (d ∷ digits) (suc i) hl hd = in_sets_at letters digits i (le_of_suc-le-suc hl) (le_of_suc-le-suc hd)

pub in_sets_below : (letters digits : List ℕ) → length letters ≡ length digits → Below 2 letters → Below 10 digits → Below 20 (in_sets letters digits)
in_sets_below letters digits long lettered below i h =
    let within : i < length digits = rw (length_in_sets letters digits long) at h in
    rw (in_sets_at letters digits i (omega arith) within) (omega (arith, lettered i (omega arith), below i within))

-- letter and digit come back from the value, and the value from them
pub letters_again : (letters digits : List ℕ) → length letters ≡ length digits → Below 10 digits → map (λ v. v / 10) (in_sets letters digits) ≡ letters
letters_again [] digits e below = refl
letters_again (l ∷ letters) [] e below = absurd (omega arith)
letters_again (l ∷ letters) (d ∷ digits) e below =
    let first = below 0 (omega arith) in
    let letter : (10 * l + d) / 10 ≡ l = omega arith in
    ap₂ (λ (x : ℕ) (xs : List ℕ). x ∷ xs) letter (letters_again letters digits (suc_inj e) (below_rest 10 d digits below))

pub digits_again : (letters digits : List ℕ) → length letters ≡ length digits → Below 10 digits → map (λ v. v % 10) (in_sets letters digits) ≡ digits
digits_again [] [] e below = refl
digits_again [] (d ∷ digits) e below = absurd (omega arith)
digits_again (l ∷ letters) [] e below = refl
digits_again (l ∷ letters) (d ∷ digits) e below =
    let first = below 0 (omega arith) in
    let digit : (10 * l + d) % 10 ≡ d = omega arith in
    ap₂ (λ (x : ℕ) (xs : List ℕ). x ∷ xs) digit (digits_again letters digits (suc_inj e) (below_rest 10 d digits below))

pub values_again : (values : List ℕ) → in_sets (map (λ v. v / 10) values) (map (λ v. v % 10) values) ≡ values
values_again [] = refl
values_again (v ∷ values) =
    let value : 10 * (v / 10) + v % 10 ≡ v = omega arith in
    ap₂ (λ (x : ℕ) (xs : List ℕ). x ∷ xs) value (values_again values)

-- values below ten are their digits
pub digits_of_below : (values : List ℕ) → Below 10 values → map (λ v. v % 10) values ≡ values
digits_of_below [] below = refl
digits_of_below (v ∷ values) below =
    let first = below 0 (omega arith) in
    let digit : v % 10 ≡ v = omega arith in
    ap₂ (λ (x : ℕ) (xs : List ℕ). x ∷ xs) digit (digits_of_below values (below_rest 10 v values below))

pub remainders_below : (values : List ℕ) → Below 10 (map (λ v. v % 10) values)
remainders_below values i h = rw (get_or-map (λ v. v % 10) values i 0) (omega arith)
