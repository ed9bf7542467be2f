-- A byte that is a digit lies from `0` to `9`; where the first other byte is past the end, every byte is one.
use Prim.Native.Nat.{ℕ, ◌≤◌, ◌<◌}
use mathlib.Core.Path.{◌≡◌}
use mathlib.Core.Bool.{true}
use mathlib.Core.List.{List, map}
use native.Mathlib.Omega.{arith}
use lib.ListN.{length, get_or}
use lib.Dec.{leb}
use borrow.Author.Tests.{leb-true, eq-eqb, ne_eqb}
use Rattle.laws.specs.First.{first_not}
use Rattle.laws.proofs.Booleans.{both_hold}
use Rattle.laws.proofs.FirstLaws.{all_pass, first_within}
use Rattle.refusal.specs.declared.Refusal.TheVariants.{Character}
use Rattle.refusal.specs.Outcome.{made, refused}
use Rattle.digits.specs.Digit.{is_digit, value_of, digits_of}

pub digit_range : (b : ℕ) → is_digit b ≡ true → (48 ≤ b) × (b ≤ 57)
digit_range b e =
    let parts = both_hold (leb 48 b) (leb b 57) e in
    (leb-true 48 b parts.0, leb-true b 57 parts.1)

pub digit_at : (bytes : List ℕ) → first_not is_digit bytes ≡ length bytes → (i : ℕ) → i < length bytes → (48 ≤ get_or bytes i 0) × (get_or bytes i 0 ≤ 57)
digit_at bytes all i h = digit_range (get_or bytes i 0) (all_pass is_digit bytes all i 0 h)

-- no byte before the end is another
pub all_digits : (bytes : List ℕ) → length bytes ≤ first_not is_digit bytes → first_not is_digit bytes ≡ length bytes
all_digits bytes h = omega (arith, first_within is_digit bytes)

pub digits_made : (bytes : List ℕ) → first_not is_digit bytes ≡ length bytes → digits_of bytes ≡ made (map value_of bytes)
unfolding digits_of
digits_made bytes all = rw (eq-eqb _ _ all)

pub digits_refused : (bytes : List ℕ) → first_not is_digit bytes < length bytes → digits_of bytes ≡ refused (Character (first_not is_digit bytes))
unfolding digits_of
digits_refused bytes h = rw (ne_eqb (first_not is_digit bytes) (length bytes) (omega arith))
