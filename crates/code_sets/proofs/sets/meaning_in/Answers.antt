-- `code_sets::sets::meaning_in` meets its contract: its branches are the lines of the definition.
use mathlib.Core.Path.{ap}
use borrow.Author.Tests.{lt-ltb, le-ltb}
use Rattle.code_sets.specs.Sets.{byte, meaning_in}
use Rattle.code_sets.proofs.sets.meaning_in.Goals as goal

pub returns-then-value-lt-BYTES : goal.returns-then-value-lt-BYTES
unfolding meaning_in
returns-then-value-lt-BYTES c =
    simp (c.in-A.is, lt-ltb _ _ c.if-value-lt-BYTES.true) (ap byte c.byte_in.ensures)

pub returns-then-value-lt-BYTES-2 : goal.returns-then-value-lt-BYTES-2
unfolding meaning_in
returns-then-value-lt-BYTES-2 c =
    simp (c.in-B.is, lt-ltb _ _ c.if-value-lt-BYTES-2.true) (ap byte c.byte_in-then-value-lt-BYTES-2.ensures)

pub returns-then-value-lt-PAIRS : goal.returns-then-value-lt-PAIRS
unfolding meaning_in
returns-then-value-lt-PAIRS c =
    simp (c.in-C.is, lt-ltb _ _ c.if-value-lt-PAIRS.true)

pub returns-else-value-lt-BYTES : goal.returns-else-value-lt-BYTES
unfolding meaning_in
returns-else-value-lt-BYTES c =
    simp (c.in-A.is, le-ltb _ _ c.if-value-lt-BYTES.false) c.letter_control.ensures

pub returns-else-value-lt-BYTES-2 : goal.returns-else-value-lt-BYTES-2
unfolding meaning_in
returns-else-value-lt-BYTES-2 c =
    simp (c.in-B.is, le-ltb _ _ c.if-value-lt-BYTES-2.false) c.letter_control-in-B.ensures

pub returns-else-value-lt-PAIRS : goal.returns-else-value-lt-PAIRS
unfolding meaning_in
returns-else-value-lt-PAIRS c =
    simp (c.in-C.is, le-ltb _ _ c.if-value-lt-PAIRS.false) c.digit_control.ensures
