-- The digits of a number, met by a function that calls itself: those of its tenth part, then the last one. The count of steps doesn't
-- matter once it passes the number, since a tenth part is smaller.
use Prim.Native.Nat.{ℕ, zero, suc, ◌+◌, ◌/◌, ◌^◌, ◌≤◌, ◌<◌}
use mathlib.Core.Path.{◌≡◌, sym, ap, ◌∙◌}
use mathlib.Core.List.{List, [], ◌∷◌, ◌++◌}
use native.Mathlib.Nat.{not-suc-le-zero, pow-suc, div-lt_iff_lt-mul}
use native.Mathlib.Decide.{dec_lt}
use native.Mathlib.Omega.{arith}
use lib.ListN.{length, length-append}
use borrow.Author.Tests.{lt-ltb, le-ltb}
use Rattle.text.specs.Decimal.{last_of, decimal_in, decimal_of}

one_step : (k n : ℕ) → n < 10 → decimal_in (suc k) n ≡ last_of n ∷ []
unfolding decimal_in
one_step k n h = rw (lt-ltb _ _ h)

more_steps : (k n : ℕ) → 10 ≤ n → decimal_in (suc k) n ≡ decimal_in k (n / 10) ++ (last_of n ∷ [])
unfolding decimal_in
more_steps k n h = rw (le-ltb _ _ h)

enough : (j k n : ℕ) → n < j → n < k → decimal_in j n ≡ decimal_in k n
enough zero k n h g = absurd (not-suc-le-zero h)
enough (suc j) zero n h g = absurd (not-suc-le-zero g)
enough (suc j) (suc k) n h g = go (dec_lt n 10) (λ large. enough j k (n / 10) (omega arith) (omega arith))
  where
    go : Dec (n < 10) → (10 ≤ n → decimal_in j (n / 10) ≡ decimal_in k (n / 10)) → decimal_in (suc j) n ≡ decimal_in (suc k) n
    go (yes small) tenth = one_step j n small ∙ sym (one_step k n small)
    go (no large) tenth =
        more_steps j n (omega arith)
        ∙ ap (λ (ds : List ℕ). ds ++ (last_of n ∷ [])) (tenth (omega arith))
        ∙ sym (more_steps k n (omega arith))

pub decimal_one : (n : ℕ) → n < 10 → decimal_of n ≡ last_of n ∷ []
unfolding decimal_of
decimal_one n h = one_step n n h

pub decimal_more : (n : ℕ) → 10 ≤ n → decimal_of n ≡ decimal_of (n / 10) ++ (last_of n ∷ [])
unfolding decimal_of
decimal_more n h = more_steps n n h ∙ ap (λ (ds : List ℕ). ds ++ (last_of n ∷ [])) (enough n (suc (n / 10)) (n / 10) (omega arith) (omega arith))

pub length_one : (n : ℕ) → n < 10 → length (decimal_of n) ≡ 1
length_one n h = rw (decimal_one n h)

pub length_more : (n : ℕ) → 10 ≤ n → length (decimal_of n) ≡ length (decimal_of (n / 10)) + 1
length_more n h = rw (decimal_more n h) (length-append (decimal_of (n / 10)) (last_of n ∷ []))

pub length_some : (n : ℕ) → 1 ≤ length (decimal_of n)
length_some n = go (dec_lt n 10)
  where
    go : Dec (n < 10) → 1 ≤ length (decimal_of n)
    go (yes small) = omega (arith, length_one n small)
    go (no large) = omega (arith, length_more n (omega arith))

-- k digits hold every number below ten to the power of k
pub length_of_decimal : (k n : ℕ) → n < 10 ^ suc k → length (decimal_of n) ≤ suc k
length_of_decimal zero n h = omega (arith, length_one n h)
length_of_decimal (suc k) n h = go (dec_lt n 10) (λ large. length_of_decimal k (n / 10) ((div-lt_iff_lt-mul (omega arith)).1 (rw (← pow-suc 10 (suc k)) h)))
  where
    go : Dec (n < 10) → (10 ≤ n → length (decimal_of (n / 10)) ≤ suc k) → length (decimal_of n) ≤ suc (suc k)
    go (yes small) tenth = omega (arith, length_one n small)
    go (no large) tenth = omega (arith, length_more n (omega arith), tenth (omega arith))
