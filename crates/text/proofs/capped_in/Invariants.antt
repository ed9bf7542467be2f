use Rattle.std.proofs.Common.{◌≡◌, ◌≤◌, min, length, drop}
use Rattle.laws.specs.First.{first_not}
use Rattle.digits.specs.Digit.{is_digit}
use Rattle.text.specs.Numeral.{number_from}
use Rattle.text.proofs.capped_in.Given as goal

abbrev pub invariant-loop-byte : goal.invariant-loop-byte
invariant-loop-byte l =
    (l.value ≤ l.cap) × (1 ≤ length l.bytes) × (first_not is_digit l.bytes ≡ length l.bytes) × (min (number_from l.value (drop l.byte-index l.bytes)) l.cap ≡ min (number_from 0 l.bytes) l.cap)
