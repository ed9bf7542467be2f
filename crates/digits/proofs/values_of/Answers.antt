-- `digits::values_of` meets its promise: of a right number, after i turns the list holds the values of the first i digits, and then what it
-- held; and the digits are as many as the places.
use Rattle.std.proofs.Common.{◌≡◌, ℕ, List, map, length, ◌++◌, drop, ap, ◌∙◌, arith}
use Rattle.std.proofs.lemmas.List.{length-map}
use Rattle.std.proofs.Math.Seq.{take_all}
use Rattle.laws.proofs.Copying.{mapped_more}
use Rattle.digits.specs.Digit.{value_of}
use Rattle.digits.proofs.DigitLaws.{digit_at}
use Rattle.digits.proofs.NumberedLaws.{right_done, right_made}
use Rattle.digits.proofs.values_of.Goals as goal

pub overflow_sub-values : goal.overflow_sub-values
overflow_sub-values c =
    (digit_at _ (right_done _ _ _ c.in_ok-count.ensures).all c.loop-i.i (omega arith)).0

pub bounds-values-i : goal.bounds-values-i
bounds-values-i c =
    omega (arith, (right_done _ _ _ c.in_ok-count.ensures).counted)

pub loop-i-preserved : goal.loop-i-preserved
loop-i-preserved c =
    let number = c.args.number.now in
    let lent = c.args.values.now in
    let i = c.loop-i.i in
    rw c.loop-i.invariant (mapped_more value_of number lent i 0 (omega arith) (omega (arith, (right_done _ _ _ c.in_ok-count.ensures).counted)))

pub returns : goal.returns
returns c =
    let values = map value_of c.args.number.now in
    let lent = c.args.values.now in
    let i = c.loop-i.i in
    let whole : length values ≡ i = length-map c.args.number.now value_of ∙ omega arith in
    record {
      answer = c.in_ok-count.ensures;
      lent = λ xs is.
          rw ((right_made _ _ xs is).values, whole)
          (c.loop-i.invariant ∙ ap (λ (front : List ℕ). front ++ drop i lent) (take_all i values (omega arith)));
    }
