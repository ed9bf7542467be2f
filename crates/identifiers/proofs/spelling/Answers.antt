-- `identifiers::spelling` meets its contract: the tests are those of the spelling, and so are the digits.
use borrow.Author.Tests.{lt-ltb, le-ltb}
use Rattle.identifiers.specs.Identifiers.{spelled}
use Rattle.identifiers.proofs.spelling.Goals as goal

pub returns-then-identifier-lt100 : goal.returns-then-identifier-lt100
unfolding spelled
returns-then-identifier-lt100 c =
    rw (lt-ltb _ 100 c.if-identifier-lt100.true, c.digit_byte.ensures, c.digit_byte-last.ensures)

pub returns-then-identifier-lt1000 : goal.returns-then-identifier-lt1000
unfolding spelled
returns-then-identifier-lt1000 c =
    let from-100 = le-ltb _ 100 c.if-identifier-lt100.false in
    let below-1000 = lt-ltb _ 1000 c.if-identifier-lt1000.true in
    rw (from-100, below-1000, c.digit_byte-then-identifier-lt1000.ensures, c.digit_byte-second.ensures, c.digit_byte-last.ensures)

pub returns : goal.returns
unfolding spelled
returns c =
    let from-100 = le-ltb _ 100 c.if-identifier-lt100.false in
    let from-1000 = le-ltb _ 1000 c.if-identifier-lt1000.false in
    rw (from-100, from-1000, c.digit_byte-2.ensures, c.digit_byte-3.ensures, c.digit_byte-second.ensures, c.digit_byte-last.ensures)
