-- What a check digit does and cannot do, said of the rules `check_digit` and `right_number` on bytes: each law is that of the values, since
-- the byte of a digit is 48 more than its value.
use Prim.Native.Nat.{ℕ, suc, ◌+◌, ◌-◌, ◌≤◌, ◌<◌}
use mathlib.Core.Path.{◌≡◌, sym, ap, ◌∙◌}
use mathlib.Core.Bool.{true}
use mathlib.Core.Logic.Iff
use mathlib.Core.Logic.{inl, inr, ⊎_elim, ◌↔◌}
use mathlib.Core.List.{List, [], ◌∷◌, ◌++◌, map, map-append}
use native.Mathlib.Omega.{arith}
use lib.ListN.{length, get_or, set, length-append, length-map, length-set, get_or-map}
use lib.Seq.{get_or-append_seam}
use borrow.Author.Tests.{le-leb}
use Rattle.laws.specs.First.{first_not}
use Rattle.laws.specs.Exchanged.{exchanged}
use Rattle.laws.proofs.ExchangedLaws.{length_exchanged, exchanged_map}
use Rattle.laws.proofs.FirstChanged.{pass_last, pass_set, pass_exchanged}
use Rattle.laws.proofs.FirstLaws.{all_pass}
use Rattle.laws.proofs.Mapped.{set_map}
use Rattle.refusal.specs.declared.Refusal.TheVariants.{CheckDigit}
use Rattle.refusal.specs.Outcome.{made, refused}
use Rattle.digits.specs.Digit.{is_digit, value_of}
use Rattle.digits.specs.Check.{check_of, is_right, check_digit, right_number, FiveApart}
use Rattle.digits.proofs.DigitLaws.{digit_range, digit_at}
use Rattle.digits.proofs.NumberedLaws.{RightNumber, right_made, right_of_parts}
use Rattle.digits.proofs.TheoremsOnRules.{wrong_check, check_digit_lem}
use Rattle.digits.proofs.TheoremsOnValues as values

-- The digit computed makes the number right, and no other does.

pub computed_below_ten : (bytes : List ℕ) (d : ℕ) → check_digit bytes ≡ made d → d < 10
computed_below_ten bytes d e = rw ((check_digit_lem bytes d).0 e).value at (values.check_below_ten (map value_of bytes))

pub computed_is_right : (bytes : List ℕ) (d : ℕ)
    → check_digit bytes ≡ made d
    → right_number (length bytes + 1) (bytes ++ ((48 + d) ∷ [])) ≡ made (map value_of bytes ++ (d ∷ []))
computed_is_right bytes d e =
    let before = (check_digit_lem bytes d).0 e in
    let digit : is_digit (48 + d) ≡ true = simp (le-leb 48 (48 + d) (omega arith), le-leb (48 + d) 57 (omega (arith, computed_below_ten bytes d e))) in
    let value : 48 + d - 48 ≡ d = omega arith in
    right_of_parts (length bytes + 1) (bytes ++ ((48 + d) ∷ [])) (map value_of bytes ++ (d ∷ []))
    (record {
      counted = length-append bytes ((48 + d) ∷ []);
      all = pass_last is_digit bytes (48 + d) before.all digit;
      values = sym (map-append value_of bytes ((48 + d) ∷ []) ∙ ap (λ (v : ℕ). map value_of bytes ++ (v ∷ [])) value);
      right = rw before.value at (values.computed_is_right (map value_of bytes));
    })

only_one : (bytes : List ℕ) (d c : ℕ) → check_digit bytes ≡ made d → is_digit c ≡ true → is_right (map value_of (bytes ++ (c ∷ []))) ≡ true → c ≡ 48 + d
only_one bytes d c e digit right =
    let range = digit_range c digit in
    let value : c - 48 ≡ check_of (map value_of bytes) = values.no_other_is_right (map value_of bytes) (c - 48) (omega arith) (rw (map-append value_of bytes (c ∷ [])) at right) in
    omega (arith, ((check_digit_lem bytes d).0 e).value)

pub no_other_is_right : (bytes : List ℕ) (d c : ℕ) (ds : List ℕ)
    → check_digit bytes ≡ made d
    → right_number (length bytes + 1) (bytes ++ (c ∷ [])) ≡ made ds
    → c ≡ 48 + d
no_other_is_right bytes d c ds e r =
    let number = right_made (length bytes + 1) (bytes ++ (c ∷ [])) ds r in
    let digit = all_pass is_digit (bytes ++ (c ∷ [])) number.all (length bytes) 0 (omega (arith, number.counted)) in
    only_one bytes d c e (rw (get_or-append_seam bytes c [] 0) at digit) (rw number.values at number.right)

pub others_are_refused : (bytes : List ℕ) (d c : ℕ)
    → check_digit bytes ≡ made d
    → is_digit c ≡ true → (c ≡ 48 + d → ⊥)
    → right_number (length bytes + 1) (bytes ++ (c ∷ [])) ≡ refused CheckDigit
others_are_refused bytes d c e digit other =
    wrong_check (length bytes + 1) (bytes ++ (c ∷ [])) (length-append bytes (c ∷ [])) (pass_last is_digit bytes c ((check_digit_lem bytes d).0 e).all digit)
    (λ (right : is_right (map value_of (bytes ++ (c ∷ []))) ≡ true). other (only_one bytes d c e digit right))

-- A right number with one digit changed is refused.

-- what is known of a right number
module _ (count : ℕ) (number ds : List ℕ) (accepted : right_number count number ≡ made ds) where
  known : RightNumber count number ds
  known = right_made count number ds accepted

  known_right : is_right (map value_of number) ≡ true
  known_right = rw known.values at known.right

  known_digit : (i : ℕ) → i < count → (48 ≤ get_or number i 0) × (get_or number i 0 ≤ 57) × (get_or (map value_of number) i 0 ≡ get_or number i 0 - 48)
  known_digit i h =
      let range = digit_at number known.all i (omega (arith, known.counted)) in
      (range.0, range.1, get_or-map value_of number i 0)

  known_within : (i : ℕ) → i < count → i < length (map value_of number)
  known_within i h = rw length-map (omega (arith, known.counted))

pub change_is_seen : (count : ℕ) (number ds : List ℕ) (i x : ℕ)
    → right_number count number ≡ made ds
    → i < count → is_digit x ≡ true → (x ≡ get_or number i 0 → ⊥)
    → right_number count (set number i x) ≡ refused CheckDigit
change_is_seen count number ds i x e h digit other =
    let was = known count number ds e in
    let range = digit_range x digit in
    let old = known_digit count number ds e i h in
    wrong_check count (set number i x) (length-set number i x ∙ was.counted) (pass_set is_digit number i x was.all digit)
    (λ (right : is_right (map value_of (set number i x)) ≡ true).
    values.change_is_seen (map value_of number) i (x - 48) (known_right count number ds e) (known_within count number ds e i h) (omega arith) (omega arith)
    (λ (same : x - 48 ≡ get_or (map value_of number) i 0). other (omega arith)) (rw (set_map value_of number i x) right))

-- A right number with two unequal neighbours exchanged passes exactly where they differ by 5: that much a check digit cannot see.

module _ (count : ℕ) (number ds : List ℕ) (i : ℕ) (accepted : right_number count number ≡ made ds) (h : suc i < count) where
  still_counted : length (exchanged i number) ≡ count
  still_counted = length_exchanged i number ∙ (known count number ds accepted).counted

  still_digits : first_not is_digit (exchanged i number) ≡ length (exchanged i number)
  still_digits =
      let was = known count number ds accepted in
      pass_exchanged is_digit i number 0 (omega (arith, was.counted)) was.all

  still_right : (get_or number i 0 ≡ get_or number (suc i) 0 → ⊥) → (is_right (map value_of (exchanged i number)) ≡ true) ↔ FiveApart (get_or number i 0) (get_or number (suc i) 0)
  still_right other =
      let first = known_digit count number ds accepted i (omega arith) in
      let second = known_digit count number ds accepted (suc i) h in
      rw (← (exchanged_map value_of i number))
      (Iff.trans
      (values.exchange_unseen_exactly (map value_of number) i (known_right count number ds accepted) (known_within count number ds accepted (suc i) h) (omega arith) (omega arith)
      (λ (same : get_or (map value_of number) i 0 ≡ get_or (map value_of number) (suc i) 0). other (omega arith)))
      (⊎_elim (λ e. inl (omega arith)) (λ e. inr (omega arith)), ⊎_elim (λ e. inl (omega arith)) (λ e. inr (omega arith))))

pub exchange_unseen : (count : ℕ) (number ds : List ℕ) (i : ℕ)
    → right_number count number ≡ made ds
    → suc i < count → FiveApart (get_or number i 0) (get_or number (suc i) 0)
    → right_number count (exchanged i number) ≡ made (exchanged i ds)
exchange_unseen count number ds i e h apart =
    let mapped : exchanged i ds ≡ map value_of (exchanged i number) = ap (exchanged i) (known count number ds e).values ∙ exchanged_map value_of i number in
    right_of_parts count (exchanged i number) (exchanged i ds)
    (record {
      counted = still_counted count number ds i e h;
      all = still_digits count number ds i e h;
      values = mapped;
      right = rw mapped ((still_right count number ds i e h unequal).1 apart);
    })
  where
    unequal : get_or number i 0 ≡ get_or number (suc i) 0 → ⊥
    unequal same = ⊎_elim (λ f. omega arith) (λ f. omega arith) apart

pub exchange_is_seen : (count : ℕ) (number ds : List ℕ) (i : ℕ)
    → right_number count number ≡ made ds
    → suc i < count → (get_or number i 0 ≡ get_or number (suc i) 0 → ⊥) → (FiveApart (get_or number i 0) (get_or number (suc i) 0) → ⊥)
    → right_number count (exchanged i number) ≡ refused CheckDigit
exchange_is_seen count number ds i e h other apart =
    wrong_check count (exchanged i number) (still_counted count number ds i e h) (still_digits count number ds i e h)
    (λ (right : is_right (map value_of (exchanged i number)) ≡ true). apart ((still_right count number ds i e h other).0 right))

pub exchange_unseen_exactly : (count : ℕ) (number ds : List ℕ) (i : ℕ)
    → right_number count number ≡ made ds
    → suc i < count → (get_or number i 0 ≡ get_or number (suc i) 0 → ⊥)
    → ((es : List ℕ) × (right_number count (exchanged i number) ≡ made es)) ↔ FiveApart (get_or number i 0) (get_or number (suc i) 0)
exchange_unseen_exactly count number ds i e h other = (
  λ r.
      let now = right_made count (exchanged i number) r.0 r.1 in
      (still_right count number ds i e h other).0 (rw now.values at now.right),
  λ apart. (exchanged i ds, exchange_unseen count number ds i e h apart),
)
