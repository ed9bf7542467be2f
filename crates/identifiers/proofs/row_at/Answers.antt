-- `identifiers::row_at` meets its contract: the first two digits say how many there are, and the number of so many digits decides.
use Prim.Native.Nat.{ℕ, ◌+◌, ◌*◌, ◌≤◌}
use mathlib.Core.Path.{◌≡◌, sym, ap, ap₂, ◌∙◌}
use native.Mathlib.Omega.{arith}
use lib.ListN.{get_or, take}
use Rattle.laws.specs.First.{first_not}
use Rattle.digits.specs.Digit.{is_digit}
use Rattle.digits.proofs.DigitLaws.{digit_range}
use Rattle.identifiers.specs.Rows.{digits_after, row_of}
use Rattle.identifiers.specs.Data.{pair_at}
use Rattle.identifiers.proofs.DecisionLaws.{too_short, after_bounds, run_within, leading_digit, decided_by_two, decided_by_three, decided_by_four}
use Rattle.identifiers.proofs.row_at.Goals.{After-digits_after-count}
use Rattle.identifiers.proofs.row_at.Goals as goal

pub returns-then-run-lt2 : goal.returns-then-run-lt2
returns-then-run-lt2 c =
    let bytes = c.args.bytes.now in
    sym (too_short bytes (omega (arith, c.leading_digits-run.ensures, (after_bounds (pair_at bytes 0)).0)))

pub pair_at-pair-requires : goal.pair_at-pair-requires
pair_at-pair-requires c =
    let bytes = c.args.bytes.now in
    let run : c.leading_digits-run.result ≡ first_not is_digit (take 4 bytes) = c.leading_digits-run.ensures in
    record { at_in_bounds = omega (arith, run_within bytes); at_value = leading_digit bytes 0 (omega arith); at_value_2 = leading_digit bytes 1 (omega arith) }

count_is : (c : After-digits_after-count) → c.digits_after-count.result ≡ digits_after (pair_at c.args.bytes.now 0)
count_is c =
    c.digits_after-count.ensures ∙ ap digits_after c.pair_at-pair.ensures.value

pub returns-then-run-count : goal.returns-then-run-count
returns-then-run-count c =
    let bytes = c.args.bytes.now in
    sym (too_short bytes (omega (arith, c.leading_digits-run.ensures, count_is (goal.at.returns-then-run-count c).After-digits_after-count)))

pub returns-then-count-eq2 : goal.returns-then-count-eq2
returns-then-count-eq2 c =
    let bytes = c.args.bytes.now in
    c.row_of.ensures ∙ ap row_of c.pair_at-pair.ensures.value ∙ sym (decided_by_two bytes (omega (arith, c.leading_digits-run.ensures)) (sym (count_is (goal.at.returns-then-count-eq2 c).After-digits_after-count) ∙ c.if-count-eq2.true))

pub bounds-bytes-2 : goal.bounds-bytes-2
bounds-bytes-2 c =
    let bytes = c.args.bytes.now in
    omega (arith, c.leading_digits-run.ensures, run_within bytes)

pub value_of-requires : goal.value_of-requires
value_of-requires c =
    let bytes = c.args.bytes.now in
    (digit_range _ (leading_digit bytes 2 (omega (arith, c.leading_digits-run.ensures)))).0

pub overflow_add-pair : goal.overflow_add-pair
overflow_add-pair c =
    let bytes = c.args.bytes.now in
    let digit = digit_range (get_or bytes 2 0) (leading_digit bytes 2 (omega (arith, c.leading_digits-run.ensures))) in
    omega (arith, c.value_of.ensures, c.pair_at-pair.ensures.upper_bound)

pub returns-then-count-eq3 : goal.returns-then-count-eq3
returns-then-count-eq3 c =
    let bytes = c.args.bytes.now in
    c.row_of-then-count-eq3.ensures
    ∙ ap₂ (λ (p d : ℕ). row_of (10 * p + d)) c.pair_at-pair.ensures.value c.value_of.ensures
    ∙ sym (decided_by_three bytes (omega (arith, c.leading_digits-run.ensures)) (sym (count_is (goal.at.returns-then-count-eq3 c).After-digits_after-count) ∙ c.if-count-eq3.true))

pub pair_at-requires : goal.pair_at-requires
pair_at-requires c =
    let bytes = c.args.bytes.now in
    let four : 4 ≤ first_not is_digit (take 4 bytes) = omega (arith, c.leading_digits-run.ensures, count_is (goal.at.pair_at-requires c).After-digits_after-count, (after_bounds (pair_at bytes 0)).0) in
    record { at_in_bounds = omega (arith, run_within bytes); at_value = leading_digit bytes 2 (omega arith); at_value_2 = leading_digit bytes 3 (omega arith) }

pub returns : goal.returns
returns c =
    let there = (goal.at.returns c).After-digits_after-count in
    let bytes = c.args.bytes.now in
    let count : digits_after (pair_at bytes 0) ≡ 4 = omega (arith, count_is there, after_bounds (pair_at bytes 0)) in
    c.row_of-2.ensures
    ∙ ap₂ (λ (p q : ℕ). row_of (100 * p + q)) c.pair_at-pair.ensures.value c.pair_at.ensures.value
    ∙ sym (decided_by_four bytes (omega (arith, c.leading_digits-run.ensures, count_is there)) count)
