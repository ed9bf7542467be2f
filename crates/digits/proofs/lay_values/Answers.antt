-- `digits::lay_values` meets its promise: after i turns the working list begins with the bytes of the first i digits; of digits, reading
-- makes what writing their number as its bytes does.
use Rattle.std.proofs.Common.{◌≡◌, map, length, length-take, Ok, Err, refl, sym, ap, ◌∙◌, arith}
use Rattle.laws.proofs.Copying.{mapped_whole}
use Rattle.laws.proofs.Results.{passed_on}
use Rattle.refusal.proofs.FillsLaws.{fills_same}
use Rattle.digits.specs.Numbered.{byte_of}
use Rattle.digits.proofs.NumberedLaws.{values_of_bytes, read_as_written, written_refused, written_laid}
use Rattle.digits.proofs.lay_values.Goals.{After-right_number}
use Rattle.digits.proofs.lay_values.Goals as goal

-- what is tested is the number of the digits
bytes : (c : After-right_number) → c.loop-i.number ≡ map byte_of c.args.values.now
bytes c = c.loop-i.invariant ∙ mapped_whole byte_of c.args.values.now _ c.loop-i.i (omega arith) (simp length-take (omega arith))

pub returns-in_err-right_number : goal.returns-in_err-right_number
returns-in_err-right_number c =
    let there = (goal.at.returns-in_err-right_number c).After-right_number in
    let digits = c.args.values.now in
    let room = length c.args.lent.now in
    let f = c.in_err-right_number.field-0.0 in
    rw (passed_on _ f c.from_residual.ensures.1)
    (fills_same _ _ _ _ _ (read_as_written digits room c.requires.below)
    (written_refused (length digits) (map byte_of) (map byte_of digits) room (Err f) (rw (← bytes there) c.in_err-right_number.ensures) f _ refl))

pub returns : goal.returns
returns c =
    let there = (goal.at.returns c).After-right_number in
    let digits = c.args.values.now in
    let room = length c.args.lent.now in
    let n = c.in_ok-right_number.field-0 in
    fills_same _ _ _ _ _ (read_as_written digits room c.requires.below)
    (written_laid (length digits) (map byte_of) (map byte_of digits) room (Ok n) (rw (← bytes there) c.in_ok-right_number.ensures) n _ _ _ _ refl
    (bytes there ∙ ap (map byte_of) (sym (values_of_bytes digits)))
    c.lay.ensures)
