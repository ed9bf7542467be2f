-- What the two rules make: the number's rule refuses a wrong check digit where its other tests pass, and the check digit's rule makes
-- something exactly if its tests pass.
use Prim.Native.Nat.{ℕ, ◌≤◌}
use mathlib.Core.Path.{◌≡◌, refl, sym, ap, ◌∙◌}
use mathlib.Core.Bool.{Bool, true, false, ◌&&◌}
use mathlib.Core.Logic.{◌↔◌}
use mathlib.Core.List.{List, map}
use lib.ListN.{length}
use lib.Dec.{leb}
use borrow.Author.Tests.{leb-true, le-leb, eq-eqb}
use Rattle.laws.specs.First.{first_not}
use Rattle.laws.proofs.Booleans.{both_hold}
use Rattle.refusal.specs.declared.Refusal.TheVariants.{Count, CheckDigit}
use Rattle.refusal.specs.Outcome.{made, refused}
use Rattle.refusal.proofs.OutcomeLaws.{made_same, must_made, bind_made}
use Rattle.digits.specs.Digit.{is_digit, value_of, digits_of}
use Rattle.digits.specs.Check.{check_of, is_right, check_digit, right_number}
use Rattle.digits.proofs.DigitLaws.{digits_made}
use Rattle.digits.proofs.NumberedLaws.{digits_of_made}

-- the count and the bytes pass, and the check digit doesn't
pub wrong_check : (count : ℕ) (number : List ℕ) → length number ≡ count → first_not is_digit number ≡ length number → (is_right (map value_of number) ≡ true → ⊥) → right_number count number ≡ refused CheckDigit
unfolding right_number
wrong_check count number counted all wrong = simp (eq-eqb _ _ counted, digits_made number all, not_right (is_right (map value_of number)) wrong)
  where
    not_right : (b : Bool) → (b ≡ true → ⊥) → b ≡ false
    not_right true h = absurd (h refl)
    not_right false h = refl

-- 1 to 17 digits, and their check digit
pub record Computed (bytes : List ℕ) (d : ℕ) : Type 0 where
  pub least : 1 ≤ length bytes
  pub most : length bytes ≤ 17
  pub all : first_not is_digit bytes ≡ length bytes
  pub value : check_of (map value_of bytes) ≡ d

pub check_digit_lem : (bytes : List ℕ) (d : ℕ) → (check_digit bytes ≡ made d) ↔ Computed bytes d
unfolding check_digit
check_digit_lem bytes d = (
  passed,
  λ (r : Computed bytes d). simp (le-leb _ _ r.least, le-leb _ _ r.most, digits_made bytes r.all, r.value),
)
  where
    passed : check_digit bytes ≡ made d → Computed bytes d
    passed e =
        let counted = must_made (leb 1 (length bytes) && leb (length bytes) 17) Count _ d e in
        let bounds = both_hold (leb 1 (length bytes)) (leb (length bytes) 17) counted.0 in
        let digits = bind_made (digits_of bytes) _ d counted.1 in
        let values = digits_of_made bytes digits.0 digits.1 in
        record {
          least = leb-true _ _ bounds.0;
          most = leb-true _ _ bounds.1;
          all = values.0;
          value = ap check_of (sym values.1) ∙ made_same _ _ digits.2;
        }
