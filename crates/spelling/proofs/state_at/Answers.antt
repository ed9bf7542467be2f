-- `spelling::state_at` meets its contract: its tables are the rule's.
use Rattle.std.proofs.Common.{◌≡◌, true, false, eq-eqb, ne_eqb, sym, ◌∙◌}
use Rattle.digits.specs.Digit.{is_digit}
use Rattle.spelling.specs.States.{state_at}
use Rattle.spelling.proofs.state_at.Goals.{Else-is_digit}
use Rattle.spelling.proofs.state_at.Goals as goal

pub returns-then-is_digit : goal.returns-then-is_digit
unfolding state_at
returns-then-is_digit c =
    let is : is_digit c.args.byte ≡ true = sym c.is_digit.ensures ∙ c.if-is_digit.true in
    rw (is, c.from.ensures)

other : (c : Else-is_digit) → is_digit c.args.byte ≡ false
other c = sym c.is_digit.ensures ∙ c.if-is_digit.false

pub returns-then-byte-eq-SEPARATOR : goal.returns-then-byte-eq-SEPARATOR
unfolding state_at
returns-then-byte-eq-SEPARATOR c =
    rw (other (goal.at.returns-then-byte-eq-SEPARATOR c).Else-is_digit, eq-eqb c.args.byte 29 c.if-byte-eq-SEPARATOR.true, c.from-then-byte-eq-SEPARATOR.ensures)

pub returns-else-byte-eq-SEPARATOR : goal.returns-else-byte-eq-SEPARATOR
unfolding state_at
returns-else-byte-eq-SEPARATOR c =
    rw (other (goal.at.returns-else-byte-eq-SEPARATOR c).Else-is_digit, ne_eqb c.args.byte 29 c.if-byte-eq-SEPARATOR.false)
