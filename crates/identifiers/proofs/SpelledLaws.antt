-- An identifier and its digits give one another.
use Prim.Native.Nat.{ℕ, ◌+◌, ◌-◌, ◌*◌, ◌/◌, ◌%◌, ◌≤◌, ◌<◌}
use mathlib.Core.Path.{◌≡◌, refl}
use mathlib.Core.Bool.{Bool, true, false}
use mathlib.Core.List.{List, [], ◌∷◌}
use native.Mathlib.Nat.{div-div-eq-div-mul}
use native.Mathlib.Omega.{arith}
use lib.Dec.{ltb}
use borrow.Author.Tests.{lt-ltb, le-ltb}
use Rattle.digits.specs.Digit.{is_digit}
use Rattle.digits.proofs.DigitLaws.{digit_range}
use Rattle.identifiers.specs.Identifiers.{spelled}

abbrev pub number_from : ℕ → List ℕ → ℕ
number_from n [] = n
number_from n (d ∷ ds) = number_from (10 * n + (d - 48)) ds

pub number_of_spelled : (n : ℕ) → n < 10000 → number_from 0 (spelled n) ≡ n
unfolding spelled
number_of_spelled n h = go (ltb n 100) refl (ltb n 1000) refl
  where
    go : (a : Bool) → ltb n 100 ≡ a → (b : Bool) → ltb n 1000 ≡ b → number_from 0 (spelled n) ≡ n
    go true p b q = rw p (omega arith)
    go false p true q = rw (p, q) (omega arith)
    go false p false q = rw (p, q) (omega (arith, div-div-eq-div-mul n 10 10, div-div-eq-div-mul n 100 10))

pub spell_two : (a b : ℕ) → is_digit a ≡ true → is_digit b ≡ true → spelled (10 * (a - 48) + (b - 48)) ≡ a ∷ b ∷ []
unfolding spelled
spell_two a b ha hb =
    let da = digit_range a ha in
    let db = digit_range b hb in
    let n = 10 * (a - 48) + (b - 48) in
    let first : 48 + n / 10 ≡ a = omega arith in
    let second : 48 + n % 10 ≡ b = omega arith in
    rw (lt-ltb n 100 (omega arith), first, second)

pub spell_three : (a b c : ℕ) → is_digit a ≡ true → is_digit b ≡ true → is_digit c ≡ true → 10 ≤ 10 * (a - 48) + (b - 48) → spelled (10 * (10 * (a - 48) + (b - 48)) + (c - 48)) ≡ a ∷ b ∷ c ∷ []
unfolding spelled
spell_three a b c ha hb hc h =
    let da = digit_range a ha in
    let db = digit_range b hb in
    let dc = digit_range c hc in
    let n = 10 * (10 * (a - 48) + (b - 48)) + (c - 48) in
    let first : 48 + n / 100 ≡ a = omega arith in
    let second : 48 + n / 10 % 10 ≡ b = omega arith in
    let third : 48 + n % 10 ≡ c = omega arith in
    rw (le-ltb n 100 (omega arith), lt-ltb n 1000 (omega arith), first, second, third)

pub spell_four : (a b c d : ℕ) → is_digit a ≡ true → is_digit b ≡ true → is_digit c ≡ true → is_digit d ≡ true → 10 ≤ 10 * (a - 48) + (b - 48) → spelled (100 * (10 * (a - 48) + (b - 48)) + (10 * (c - 48) + (d - 48))) ≡ a ∷ b ∷ c ∷ d ∷ []
unfolding spelled
spell_four a b c d ha hb hc hd h =
    let da = digit_range a ha in
    let db = digit_range b hb in
    let dc = digit_range c hc in
    let dd = digit_range d hd in
    let n = 100 * (10 * (a - 48) + (b - 48)) + (10 * (c - 48) + (d - 48)) in
    let first : 48 + n / 1000 ≡ a = omega arith in
    let second : 48 + n / 100 % 10 ≡ b = omega arith in
    let third : 48 + n / 10 % 10 ≡ c = omega (arith, div-div-eq-div-mul n 10 10) in
    let fourth : 48 + n % 10 ≡ d = omega arith in
    rw (le-ltb n 100 (omega arith), le-ltb n 1000 (omega arith), first, second, third, fourth)
