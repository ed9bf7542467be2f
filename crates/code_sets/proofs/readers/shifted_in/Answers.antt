-- `code_sets::readers::shifted_in` meets its contract: a shift that nothing follows or that a value from 96 on follows is illegal, and any
-- other value is a byte of the other set.
use mathlib.Core.Path.{◌≡◌, ap, ◌∙◌}
use native.Mathlib.Omega.{arith}
use lib.ListN.{get_or}
use Rattle.code_sets.specs.Sets.{Set, byte_in, other}
use Rattle.code_sets.specs.Reading.{shifted_from}
use Rattle.code_sets.proofs.ReaderLaws.{shift_at_end, shifted_high, shifted_low, sticks, turns}
use Rattle.code_sets.proofs.readers.shifted_in.Goals as goal

pub returns-then-values-i : goal.returns-then-values-i
returns-then-values-i c =
    let args = c.args in
    record { reached = shift_at_end args.set args.values.now args.i args.text.now args.n (omega arith) }

pub returns-then-value-ge-BYTES : goal.returns-then-value-ge-BYTES
returns-then-value-ge-BYTES c =
    let args = c.args in
    record {
      reached = sticks (shifted_from args.set) args.values.now args.i (omega arith) args.text.now c.told-text args.n c.requires.1
          (shifted_high args.set _ c.if-value-ge-BYTES.true);
    }

pub returns : goal.returns
returns c =
    let args = c.args in
    let value = get_or args.values.now args.i 0 in
    let is : c.byte_in.result ≡ byte_in (other args.set) value = c.byte_in.ensures ∙ ap (λ (s : Set). byte_in s value) c.other_of.ensures in
    turns (shifted_from args.set) args.values.now args.i (omega (arith, c.if-values-i.false)) args.text.now c.told-text args.n c.requires.1
    args.set _ _ args.i _ _ (omega arith) (shifted_low args.set value _ is c.if-value-ge-BYTES.false) c.put_byte.ensures
