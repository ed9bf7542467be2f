-- The tests of the data: a number is right exactly where the test of a number passes it; a kind's sizes are those of its
-- content.
use Rattle.std.specs.Prelude.{Some, is_ok}
use Prim.Native.Nat.{ℕ, ◌≤◌}
use mathlib.Core.Path.{◌≡◌, refl}
use mathlib.Core.Bool.{Bool, true, false, ◌&&◌}
use mathlib.Core.List.{List, map}
use lib.ListN.{length}
use lib.Dec.{eqb, leb}
use borrow.Author.Tests.{eq-eqb, eqb-true, leb-true, le-leb}
use Rattle.laws.proofs.Booleans.{both_hold}
use Rattle.refusal.specs.declared.Refusal.TheVariants.{Character, CheckDigit}
use Rattle.refusal.specs.Outcome.{made, must, ◌>>=◌, ◌>>◌}
use Rattle.refusal.specs.Fills.{answer_of}
use Rattle.laws.specs.First.{first_not}
use Rattle.digits.specs.Digit.{is_digit, value_of, digits_of}
use Rattle.digits.specs.Check.{is_right, right_number}
use Rattle.identifiers.specs.declared.Content.{Content}
use Rattle.identifiers.specs.declared.Content.TheVariants.{DigitsWithCheck, Date}
use Rattle.identifiers.specs.declared.Kind.{Kind}
use Rattle.identifiers.specs.Identifiers.{table, kind_of}
use Rattle.identifiers.specs.Data.{is_number, passes, right_data}
use Rattle.identifiers.specs.Rows.{sized_as, sized}
use Rattle.identifiers.proofs.ListedLaws.{all_rows, kind_passes}

pub number_passes : (bytes : List ℕ) → is_ok (answer_of (right_number (length bytes) bytes)) ≡ is_number bytes
unfolding right_number is_number digits_of
number_passes bytes = rw (eq-eqb (length bytes) (length bytes) refl) (digits (eqb (first_not is_digit bytes) (length bytes)))
  where
    checked : (b : Bool) → is_ok (answer_of (must b CheckDigit >> made (map value_of bytes))) ≡ b
    checked true = refl
    checked false = refl

    digits : (a : Bool) → is_ok (answer_of ((must a (Character (first_not is_digit bytes)) >> made (map value_of bytes)) >>= (λ (ds : List ℕ). must (is_right ds) CheckDigit >> made ds))) ≡ (a && is_right (map value_of bytes))
    digits true = checked (is_right (map value_of bytes))
    digits false = refl

-- within its kind's sizes, data is right where it passes its content's test
pub right_by_content : (kind : Kind) (bytes : List ℕ) (content : Content) → kind.least ≤ length bytes → length bytes ≤ kind.most → kind.content ≡ content → right_data kind bytes ≡ passes content bytes
unfolding right_data
right_by_content kind bytes content low high is = rw (le-leb _ _ low, le-leb _ _ high, is)

pub sized_number : (kind : Kind) → sized kind ≡ true → kind.content ≡ DigitsWithCheck → (1 ≤ kind.least) × (kind.most ≤ 18)
unfolding sized sized_as
sized_number kind e is =
    let both = both_hold (leb 1 kind.least) (leb kind.most 18) (rw is at e) in
    (leb-true _ _ both.0, leb-true _ _ both.1)

pub sized_date : (kind : Kind) → sized kind ≡ true → kind.content ≡ Date → (kind.least ≡ 6) × (kind.most ≡ 6)
unfolding sized sized_as
sized_date kind e is =
    let both = both_hold (eqb kind.least 6) (eqb kind.most 6) (rw is at e) in
    (eqb-true _ _ both.0, eqb-true _ _ both.1)

all_sized : all_rows sized table ≡ true
unfolding sized sized_as table
all_sized = refl

pub sized_if_listed : (x : ℕ) (kind : Kind) → kind_of x ≡ Some kind → sized kind ≡ true
unfolding kind_of
sized_if_listed x kind e = kind_passes sized table all_sized x kind e
