-- A number written and read again is the same number: its digits are digits, and reading one digit more takes the number so far ten
-- times and adds it, which undoes the writer's step from a number to its tenth part.
use Rattle.std.specs.Prelude.{Some}
use Prim.Native.Nat.{ℕ, zero, suc, ◌+◌, ◌*◌, ◌/◌, ◌≤◌, ◌<◌}
use mathlib.Core.Path.{◌≡◌, refl, ◌∙◌}
use mathlib.Core.Bool.{true}
use mathlib.Core.List.{List, [], ◌∷◌, ◌++◌}
use native.Mathlib.Nat.{not-suc-le-zero}
use native.Mathlib.Decide.{dec_lt}
use native.Mathlib.Omega.{arith}
use lib.ListN.{length}
use borrow.Author.Tests.{le-leb, eq-eqb}
use Rattle.laws.specs.First.{first_not}
use Rattle.laws.proofs.FirstLaws.{first_of_nil}
use Rattle.laws.proofs.FirstChanged.{pass_last}
use Rattle.digits.specs.Digit.{is_digit, value_of}
use Rattle.text.specs.Decimal.{last_of, decimal_of}
use Rattle.text.specs.Numeral.{number_from, number_in}
use Rattle.text.proofs.DecimalLaws.{decimal_one, decimal_more, length_some}
use Rattle.text.proofs.NumeralLaws.{number_of_nil}

-- one byte more, read
number_then : (n : ℕ) (bytes : List ℕ) (b : ℕ) → number_from n (bytes ++ (b ∷ [])) ≡ number_from n bytes * 10 + value_of b
unfolding number_from
number_then n [] b = refl
number_then n (a ∷ bytes) b = number_then (n * 10 + value_of a) bytes b

last_is_digit : (n : ℕ) → is_digit (last_of n) ≡ true
last_is_digit n = simp (le-leb 48 (last_of n) (omega arith), le-leb (last_of n) 57 (omega arith))

-- so many steps suffice for any number below them
written : (steps n : ℕ) → n < steps → (first_not is_digit (decimal_of n) ≡ length (decimal_of n)) × (number_from 0 (decimal_of n) ≡ n)
written zero n h = absurd (not-suc-le-zero h)
written (suc steps) n h = go (dec_lt n 10) (λ large. written steps (n / 10) (omega arith))
  where
    go : Dec (n < 10) → (10 ≤ n → (first_not is_digit (decimal_of (n / 10)) ≡ length (decimal_of (n / 10))) × (number_from 0 (decimal_of (n / 10)) ≡ n / 10)) → (first_not is_digit (decimal_of n) ≡ length (decimal_of n)) × (number_from 0 (decimal_of n) ≡ n)
    go (yes small) tenth =
        rw (decimal_one n small)
        (pass_last is_digit [] (last_of n) (first_of_nil is_digit) (last_is_digit n), number_then 0 [] (last_of n) ∙ omega (arith, number_of_nil 0))
    go (no few) tenth =
        let before = tenth (omega arith) in
        rw (decimal_more n (omega arith))
        (pass_last is_digit (decimal_of (n / 10)) (last_of n) before.0 (last_is_digit n), number_then 0 (decimal_of (n / 10)) (last_of n) ∙ omega (arith, before.1))

pub number_of_decimal : (n most : ℕ) → n ≤ most → number_in (decimal_of n) most ≡ Some n
unfolding number_in
number_of_decimal n most h =
    let back = written (suc n) n (omega arith) in
    simp (le-leb 1 (length (decimal_of n)) (length_some n), eq-eqb (first_not is_digit (decimal_of n)) (length (decimal_of n)) back.0, back.1, le-leb n most h)
