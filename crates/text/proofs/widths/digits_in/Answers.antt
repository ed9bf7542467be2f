-- `text::widths::digits_in` meets its contract: after i turns i bytes are digits and their values stand at the front, and the first byte
-- that is none is counted from there.
use Rattle.std.proofs.Common.{◌≡◌, [], true, false, map, length, get_or, take, drop, length-set, drop_of_length-le, take_all, add-one, sym, ap, ◌∙◌, arith}
use lib.ListN.{length-map}
use Rattle.laws.specs.First.{first_not}
use Rattle.laws.proofs.FirstLaws.{first_of_nil, first_stops, first_goes}
use Rattle.digits.specs.Digit.{is_digit, value_of}
use Rattle.digits.proofs.DigitLaws.{digit_range}
use Rattle.text.specs.Widths.{digits_in}
use Rattle.text.proofs.WidthsLaws.{takes_none, takes_front, values_more, digits_none, digits_all}
use Rattle.text.proofs.widths.digits_in.Goals.{Else-not-is_digit}
use Rattle.text.proofs.widths.digits_in.Goals as goal

digit : (c : Else-not-is_digit) → is_digit (get_or c.args.typed.now c.loop-i.i 0) ≡ true
digit c =
    sym c.is_digit.ensures ∙ c.if-not-is_digit.false

pub returns-then-not-is_digit : goal.returns-then-not-is_digit
returns-then-not-is_digit c =
    let typed = c.args.typed.now in
    let other : is_digit (get_or typed c.loop-i.i 0) ≡ false = sym c.is_digit.ensures ∙ c.if-not-is_digit.true in
    let stops = first_stops is_digit typed c.loop-i.i 0 (omega arith) other in
    takes_none (digits_in typed) c.loop-i.widths (digits_none typed (omega arith))

pub overflow_sub-widths : goal.overflow_sub-widths
overflow_sub-widths c =
    (digit_range _ (digit (goal.at.overflow_sub-widths c).Else-not-is_digit)).0

pub loop-i-preserved : goal.loop-i-preserved
loop-i-preserved c =
    let typed = c.args.typed.now in
    let i = c.loop-i.i in (
      simp length-set (omega arith),
      rw add-one (omega (arith, first_goes is_digit typed i 0 (omega arith) (digit (goal.at.loop-i-preserved c).Else-not-is_digit))),
      values_more typed c.loop-i.widths i (omega arith) (omega arith) c.loop-i.invariant.2,
    )

pub returns : goal.returns
returns c =
    let typed = c.args.typed.now in
    let count = length typed in
    let whole : c.loop-i.i ≡ count = omega arith in
    let over : drop c.loop-i.i typed ≡ [] = drop_of_length-le typed {i = c.loop-i.i} (omega arith) in
    let none : first_not is_digit typed ≡ count = omega (arith, ap (first_not is_digit) over, first_of_nil is_digit) in
    let front : take count c.loop-i.widths ≡ map value_of typed = (rw whole at c.loop-i.invariant.2) ∙ take_all count (map value_of typed) (rw length-map (omega arith)) in
    takes_front (digits_in typed) count c.loop-i.widths (omega arith) (rw front (digits_all typed none))
