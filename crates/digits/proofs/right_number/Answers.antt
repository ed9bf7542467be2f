-- `digits::right_number` meets its contract: the tests that led to each `return` are those of the rule's lines; the number before its
-- last digit is digits too, so its weighed sum can be taken.
use Rattle.std.specs.Prelude.{Ok, Err}
use Prim.Native.Nat.{ℕ, ◌+◌, ◌-◌, ◌%◌}
use mathlib.Core.Path.{◌≡◌, sym, ap, ap₂, ◌∙◌}
use mathlib.Core.List.{List, map}
use native.Mathlib.Omega.{arith}
use lib.ListN.{length, get_or, take, length-map, get_or-map}
use lib.Dec.{eqb}
use borrow.Author.Tests.{eq-eqb, ne_eqb}
use Rattle.laws.specs.First.{first_not}
use Rattle.laws.specs.Weighed.{weighed}
use Rattle.laws.proofs.FirstLaws.{pass_take}
use Rattle.laws.proofs.Mapped.{take_map}
use Rattle.refusal.specs.declared.Refusal.TheVariants.{Character}
use Rattle.digits.specs.Digit.{is_digit, value_of}
use Rattle.digits.specs.Check.{weight_at, is_right, right_number}
use Rattle.digits.proofs.DigitLaws.{digit_at, all_digits, digits_made, digits_refused}
use Rattle.digits.proofs.right_number.Goals.{After-value_of, Else-place-count}
use Rattle.digits.proofs.right_number.Goals as goal

-- the sum that is tested, as the rule has it
right-sum : (number : List ℕ) (n : ℕ) → length number ≡ n → is_right (map value_of number) ≡ eqb ((weighed weight_at (map value_of (take (n - 1) number)) + value_of (get_or number (n - 1) 0)) % 10) 0
unfolding is_right
right-sum number n e = rw (length-map, take_map, e, get_or-map value_of number (n - 1) 0)

pub returns-then-number-count : goal.returns-then-number-count
unfolding right_number
returns-then-number-count c =
    simp (ne_eqb _ _ c.if-number-count.true)

pub returns-then-place-count : goal.returns-then-place-count
unfolding right_number
returns-then-place-count c =
    let number = c.args.number.now in
    let place : c.first_other-place.result ≡ first_not is_digit number = c.first_other-place.ensures in
    simp (eq-eqb _ _ c.if-number-count.false, digits_refused number (omega arith)) (ap (λ (p : ℕ). Err (Character p)) place)

all : (c : Else-place-count) → first_not is_digit c.args.number.now ≡ length c.args.number.now
all c =
    let number = c.args.number.now in
    all_digits number (omega (arith, c.first_other-place.ensures))

pub weighed_sum-requires-clause-digits_value : goal.weighed_sum-requires-clause-digits_value
weighed_sum-requires-clause-digits_value c =
    pass_take is_digit (c.args.count - 1) c.args.number.now 0 (all c)

pub value_of-requires : goal.value_of-requires
value_of-requires c =
    let number = c.args.number.now in
    let n = c.args.count in
    (digit_at number (all (goal.at.value_of-requires c).Else-place-count) (n - 1) (omega arith)).0

tested : (c : After-value_of) → is_right (map value_of c.args.number.now) ≡ eqb ((c.weighed_sum.result + c.value_of.result) % 10) 0
tested c =
    let number = c.args.number.now in
    let n = c.args.count in
    right-sum number n c.if-number-count.false
    ∙ sym (ap₂ (λ (sum last : ℕ). eqb ((sum + last) % 10) 0) c.weighed_sum.ensures.value c.value_of.ensures)

pub returns-then-sum-eq0 : goal.returns-then-sum-eq0
unfolding right_number
returns-then-sum-eq0 c =
    let before = (goal.at.returns-then-sum-eq0 c).Else-place-count in
    let there = (goal.at.returns-then-sum-eq0 c).After-value_of in
    let number = c.args.number.now in
    let same = c.if-number-count.false in
    simp (eq-eqb _ _ same, digits_made number (all before), tested there, eq-eqb _ 0 c.if-sum-eq0.true) (ap Ok (sym same ∙ sym (length-map number value_of)))

pub returns-else-sum-eq0 : goal.returns-else-sum-eq0
unfolding right_number
returns-else-sum-eq0 c =
    let before = (goal.at.returns-else-sum-eq0 c).Else-place-count in
    let there = (goal.at.returns-else-sum-eq0 c).After-value_of in
    simp (eq-eqb _ _ c.if-number-count.false, digits_made c.args.number.now (all before), tested there, ne_eqb _ 0 c.if-sum-eq0.false)
