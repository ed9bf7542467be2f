-- `digits::check_digit` meets its contract: the tests that led to each `return` are those of the rule's lines, and no other byte is left
-- where the first one lies past the end.
use Rattle.std.proofs.Common.{◌≡◌, ℕ, ◌-◌, ◌%◌, ◌≤◌, length, Ok, Err, sym, ap, arith, false}
use Rattle.std.proofs.Math.Bool.{◌&&◌}
use Rattle.std.proofs.Math.Dec.{leb}
use Rattle.std.proofs.lemmas.Bool.{eqb-false}
use borrow.Author.Tests.{le-leb, lt-leb, eqb-true}
use Rattle.laws.specs.First.{first_not}
use Rattle.refusal.specs.declared.Refusal.TheVariants.{Character}
use Rattle.digits.specs.Digit.{is_digit}
use Rattle.digits.specs.Check.{check_of, check_digit}
use Rattle.digits.proofs.DigitLaws.{all_digits, digits_made, digits_refused}
use Rattle.digits.proofs.check_digit.Goals.{then-is_empty-via-then-is_empty, then-is_empty-via-else-is_empty+then-digits-gt17}
use Rattle.digits.proofs.check_digit.Goals as goal

pub returns-then-is_empty : goal.returns-then-is_empty
unfolding check_digit
returns-then-is_empty c =
    let n = length c.args.digits.now in
    let counted : (leb 1 n && leb n 17) ≡ false = elim c.then-is_empty.branch [
      | then-is_empty-via-then-is_empty w ↦ simp (lt-leb 1 n (omega (arith, eqb-true n 0 (sym w.if-is_empty.ensures))))
      | then-is_empty-via-else-is_empty+then-digits-gt17 w ↦ simp (le-leb 1 n (omega arith), lt-leb n 17 w.if-digits-gt17.true)
    ] in
    rw counted

pub returns-then-place-digits : goal.returns-then-place-digits
unfolding check_digit
returns-then-place-digits c =
    let bytes = c.args.digits.now in
    let place : c.first_other-place.result ≡ first_not is_digit bytes = c.first_other-place.ensures in
    let some : 1 ≤ length bytes = omega (arith, eqb-false (length bytes) 0 (sym c.if-is_empty.ensures)) in
    simp (le-leb 1 (length bytes) some, le-leb (length bytes) 17 (omega arith), digits_refused bytes (omega arith))
    (ap (λ (p : ℕ). Err (Character p)) place)

pub weighed_sum-requires-clause-digits_value : goal.weighed_sum-requires-clause-digits_value
weighed_sum-requires-clause-digits_value c =
    all_digits c.args.digits.now (omega (arith, c.first_other-place.ensures))

pub returns : goal.returns
unfolding check_digit check_of
returns c =
    let bytes = c.args.digits.now in
    let all : first_not is_digit bytes ≡ length bytes = all_digits bytes (omega (arith, c.first_other-place.ensures)) in
    let some : 1 ≤ length bytes = omega (arith, eqb-false (length bytes) 0 (sym c.if-is_empty.ensures)) in
    simp (le-leb 1 (length bytes) some, le-leb (length bytes) 17 (omega arith), digits_made bytes all)
    (ap (λ (sum : ℕ). Ok ((10 - sum % 10) % 10)) c.weighed_sum.ensures.value)
