use Rattle.std.proofs.Common.{◌≡◌, ◌+◌, map, length, take, drop}
use Rattle.laws.specs.First.{first_not}
use Rattle.digits.specs.Digit.{is_digit, value_of}
use Rattle.text.proofs.widths.digits_in.Given as goal

abbrev pub invariant-loop-i : goal.invariant-loop-i
invariant-loop-i l =
    (length l.widths ≡ length l.initial.widths) × (first_not is_digit l.typed ≡ l.i + first_not is_digit (drop l.i l.typed)) × (take l.i l.widths ≡ take l.i (map value_of l.typed))
