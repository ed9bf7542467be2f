-- `calls::symbol_lines::read_in` meets its contract: the widths that were typed stand at the front of the list.
use Prim.Native.Nat.{◌≤◌}
use mathlib.Core.Path.{◌≡◌, sym, ap, ◌∙◌}
use lib.ListN.{length, take}
use lib.Seq.{length-take-le}
use Rattle.text.proofs.PutsLaws.{puts_same}
use Rattle.text.specs.Widths.{Said, widths, widths_in}
use Rattle.calls.specs.Answers.{read_typed}
use Rattle.calls.proofs.TypedLaws.{unread, at_front}
use Rattle.calls.proofs.symbol_lines.read_in.Goals.{In-Some}
use Rattle.calls.proofs.symbol_lines.read_in.Goals as goal

pub returns-in_default : goal.returns-in_default
returns-in_default c =
    let args = c.args in
    let none = unread (widths_in args.typed.now) (sym c.in_default.is ∙ c.widths_in.ensures.count) in
    puts_same _ _ _ _ _ (ap (λ (said : Said). read_typed args.kind said (length args.content.now)) none) c.put_fault.ensures

front : (c : In-Some) → (widths_in c.args.typed.now ≡ widths (take c.in-Some.count c.widths_in.new.widths)) × (c.in-Some.count ≤ length c.widths_in.new.widths)
front c =
    let n = c.in-Some.count in
    at_front _ c.widths_in.result c.widths_in.new.widths n c.in-Some.is c.widths_in.ensures

pub returns : goal.returns
returns c =
    let args = c.args in
    puts_same _ _ _ _ _ (ap (λ (said : Said). read_typed args.kind said (length args.content.now)) (front (goal.at.returns c).In-Some).0) c.read_list.ensures

pub slice_bounds-read_list-end : goal.slice_bounds-read_list-end
slice_bounds-read_list-end c =
    (front (goal.at.slice_bounds-read_list-end c).In-Some).1

pub slice_bounds-read_list-end-2 : goal.slice_bounds-read_list-end-2
slice_bounds-read_list-end-2 c =
    sym (length-take-le _ _ (front (goal.at.slice_bounds-read_list-end-2 c).In-Some).1)
