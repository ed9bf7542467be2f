-- `identifiers::contents::is_date` meets its contract: each `return` has the tests of the definition behind it.
use Rattle.std.proofs.Common.{ℕ, true, false, ◌<◌, ◌≡◌, get_or, sym, ap, ◌∙◌, arith}
use mathlib.Core.Bool.{◌&&◌}
use lib.Dec.{leb}
use borrow.Author.Tests.{eqb-true}
use Rattle.laws.proofs.FirstLaws.{all_pass as each_passes}
use Rattle.laws.proofs.Ranges.{range_has}
use Rattle.digits.specs.Digit.{is_digit}
use Rattle.identifiers.specs.Data.{all_pass, pair_at, is_date}
use Rattle.identifiers.proofs.contents.is_date.Goals.{After-contains, Else-not-is_digits}
use Rattle.identifiers.proofs.contents.is_date.Goals as goal

pub returns-then-not-is_digits : goal.returns-then-not-is_digits
unfolding is_date
returns-then-not-is_digits c =
    let wrong : all_pass is_digit c.args.bytes.now ≡ false = sym c.is_digits.ensures ∙ c.if-not-is_digits.true in
    rw wrong

all : (c : Else-not-is_digits) → all_pass is_digit c.args.bytes.now ≡ true
all c =
    sym c.is_digits.ensures ∙ c.if-not-is_digits.false

digit : (c : Else-not-is_digits) → (i : ℕ) → i < 6 → is_digit (get_or c.args.bytes.now i 0) ≡ true
digit c i h =
    each_passes is_digit c.args.bytes.now (eqb-true _ _ (all c)) i 0 (omega (arith, c.requires))

pub pair_at-month-requires : goal.pair_at-month-requires
pair_at-month-requires c =
    record { at_in_bounds = omega (arith, c.requires); at_value = digit c 2 (omega arith); at_value_2 = digit c 3 (omega arith) }

pub pair_at-requires : goal.pair_at-requires
pair_at-requires c =
    let there = (goal.at.pair_at-requires c).Else-not-is_digits in
    record { at_in_bounds = omega (arith, c.requires); at_value = digit there 4 (omega arith); at_value_2 = digit there 5 (omega arith) }

pub pair_at-requires-2 : goal.pair_at-requires-2
pair_at-requires-2 c =
    let there = (goal.at.pair_at-requires-2 c).Else-not-is_digits in
    record { at_in_bounds = omega (arith, c.requires); at_value = digit there 0 (omega arith); at_value_2 = digit there 1 (omega arith) }

month : (c : After-contains) → c.contains.result ≡ (leb 1 (pair_at c.args.bytes.now 2) && leb (pair_at c.args.bytes.now 2) 12)
month c =
    c.contains.ensures.value ∙ range_has _ 1 12 _ c.new.ensures.start c.new.ensures.end c.new.ensures.exhausted ∙ ap (λ (m : ℕ). leb 1 m && leb m 12) c.pair_at-month.ensures.value

pub returns-then-not-contains : goal.returns-then-not-contains
unfolding is_date
returns-then-not-contains c =
    let none = sym (month (goal.at.returns-then-not-contains c).After-contains) ∙ c.if-not-contains.true in
    rw (all (goal.at.returns-then-not-contains c).Else-not-is_digits, none)

pub returns : goal.returns
unfolding is_date
returns c =
    let one = sym (month (goal.at.returns c).After-contains) ∙ c.if-not-contains.false in
    rw (all (goal.at.returns c).Else-not-is_digits, one, c.days_in.ensures, c.pair_at.ensures.value, c.pair_at-2.ensures.value, c.pair_at-month.ensures.value)
