-- `requests::faults::put_described` meets its contract: each text is what the rule says of its argument.
use Rattle.requests.specs.Texts.{described}
use Rattle.requests.proofs.faults.put_described.Goals as goal

pub returns-in-Places : goal.returns-in-Places
unfolding described
returns-in-Places c =
    rw c.in-Places.is c.put_text.ensures

pub returns-in-Call : goal.returns-in-Call
unfolding described
returns-in-Call c =
    rw c.in-Call.is c.put_text-in-Call.ensures

pub returns-in-Digits : goal.returns-in-Digits
unfolding described
returns-in-Digits c =
    rw c.in-Digits.is c.put_text-in-Digits.ensures

pub returns-in-Number : goal.returns-in-Number
unfolding described
returns-in-Number c =
    rw c.in-Number.is c.put_text-in-Number.ensures

pub returns-in-Message : goal.returns-in-Message
unfolding described
returns-in-Message c =
    rw c.in-Message.is c.put_text-in-Message.ensures

pub returns-in-Widths : goal.returns-in-Widths
unfolding described
returns-in-Widths c =
    rw c.in-Widths.is c.put_text-in-Widths.ensures

pub returns-in-Identifier : goal.returns-in-Identifier
unfolding described
returns-in-Identifier c =
    rw c.in-Identifier.is c.put_text-in-Identifier.ensures

pub returns-in-Data : goal.returns-in-Data
unfolding described
returns-in-Data c =
    rw c.in-Data.is c.put_text-in-Data.ensures
