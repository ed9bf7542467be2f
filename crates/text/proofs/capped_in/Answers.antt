-- `text::capped_in` meets its contract: the number so far and the digits that are left say what the whole numeral says, or both say more
-- than the cap.
use Rattle.std.proofs.Common.{◌≡◌, ℕ, suc, ◌+◌, ◌*◌, min, length, get_or, drop, eqb-true, Some, refl, sym, ap, ◌∙◌, le-leb, eq-eqb, ne_eqb, add-one, arith}
use native.Mathlib.Nat.{min-eq_left}
use lib.Seq.{drop-length}
use borrow.Author.Tests.{lt-leb}
use Rattle.std.proofs.Math.Bool.{and-false}
use Rattle.std.proofs.lemmas.Bool.Decides.{nat_tests}
use Rattle.laws.specs.First.{first_not}
use Rattle.digits.specs.Digit.{is_digit, value_of}
use Rattle.digits.proofs.DigitLaws.{digit_at, all_digits}
use Rattle.text.specs.Numeral.{number_from, capped_in}
use Rattle.text.proofs.NumeralLaws.{number_of_nil, number_more, capped_more}
use Rattle.text.proofs.capped_in.Goals.{then-is_empty-via-then-is_empty, then-is_empty-via-else-is_empty+then-first_other-bytes}
use Rattle.text.proofs.capped_in.Goals as goal

pub returns-then-is_empty : goal.returns-then-is_empty
unfolding capped_in
returns-then-is_empty c =
    let bytes = c.args.bytes.now in
    elim c.then-is_empty.branch [
      | then-is_empty-via-then-is_empty w ↦ simp (lt-leb 1 (length bytes) (omega (arith, eqb-true (length bytes) 0 (sym c.is_empty.ensures ∙ w.if-is_empty.true))))
      | then-is_empty-via-else-is_empty+then-first_other-bytes w ↦ simp (ne_eqb (first_not is_digit bytes) (length bytes) (omega arith), and-false)
    ]

pub loop-byte-init : goal.loop-byte-init
loop-byte-init c =
    (omega arith, grind (arith, nat_tests), all_digits c.args.bytes.now (omega arith), refl)

pub value_of-requires : goal.value_of-requires
value_of-requires c =
    let loop = c.loop-byte in
    (digit_at c.args.bytes.now loop.invariant.2 loop.byte-index (omega arith)).0

pub loop-byte-preserved : goal.loop-byte-preserved
loop-byte-preserved c =
    let loop = c.loop-byte in
    let args = c.args in
    let bytes = args.bytes.now in
    let next = loop.value * 10 + value_of (get_or bytes loop.byte-index 0) in
    let more = ap (λ (n : ℕ). min n args.cap) (number_more loop.value bytes loop.byte-index (omega arith)) in
    let value : c.min-value.result ≡ min next args.cap = rw (← c.value_of.ensures) c.min-value.ensures in (
      omega (arith, c.min-value.ensures),
      loop.invariant.1,
      loop.invariant.2,
      rw (add-one, value) (capped_more next args.cap (drop (suc loop.byte-index) bytes) ∙ sym more ∙ loop.invariant.3),
    )

pub returns : goal.returns
unfolding capped_in
returns c =
    let loop = c.loop-byte in
    let args = c.args in
    let bytes = args.bytes.now in
    let whole : loop.byte-index ≡ length bytes = omega arith in
    let says = simp (drop-length, number_of_nil) at (rw whole at loop.invariant.3) in
    let value : loop.value ≡ min (number_from 0 bytes) args.cap = sym (min-eq_left loop.invariant.0) ∙ says in
    simp (
      le-leb 1 (length bytes) loop.invariant.1,
      eq-eqb (first_not is_digit bytes) (length bytes) loop.invariant.2,
    )
    (ap Some value)
