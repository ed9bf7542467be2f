-- `asking::ask` meets its contract: the part is cut where the string that was found says.
use Prim.Native.Nat.{ℕ, ◌+◌, ◌≤◌}
use mathlib.Core.Path.{◌≡◌, sym, ap, ◌∙◌}
use native.Mathlib.Nat.{add-sub_cancel_left}
use native.Mathlib.Omega.{arith}
use lib.ListN.{length, take, drop}
use Rattle.refusal.specs.Outcome.{made}
use Rattle.refusal.proofs.FillsLaws.{refused_of_answered, made_of_answered}
use Rattle.asking.specs.Asking.{asked, part_of}
use Rattle.asking.proofs.AskLaws.{asked_stands, part_within}
use Rattle.asking.proofs.ask.Goals.{In-Ok}
use Rattle.asking.proofs.ask.Goals as goal

pub returns-in_default : goal.returns-in_default
returns-in_default c =
    let message = c.args.message.now in
    let x = c.args.identifier in
    sym (ap (part_of message) (refused_of_answered (asked message x) _ (sym c.in_default.is ∙ c.find.ensures)))

is-asked : (c : In-Ok) → asked c.args.message.now c.args.identifier ≡ made c.in-Ok.element
is-asked c =
    let message = c.args.message.now in
    let x = c.args.identifier in
    let string = c.in-Ok.element in
    made_of_answered (asked message x) string (sym c.in-Ok.is ∙ c.find.ensures)

inside : (c : In-Ok) → c.in-Ok.element.begin + c.in-Ok.element.length ≤ length c.args.message.now
inside c =
    let message = c.args.message.now in
    let x = c.args.identifier in
    let string = c.in-Ok.element in
    part_within message string (asked_stands message x string (is-asked c))

pub overflow_add-end : goal.overflow_add-end
overflow_add-end c =
    omega (arith, inside (goal.at.overflow_add-end c).In-Ok)

pub slice_bounds-result-end-2 : goal.slice_bounds-result-end-2
slice_bounds-result-end-2 c =
    inside (goal.at.slice_bounds-result-end-2 c).In-Ok

pub returns : goal.returns
returns c =
    let message = c.args.message.now in
    let string = c.in-Ok.element in
    ap (λ (n : ℕ). take n (drop string.begin message)) (add-sub_cancel_left string.begin string.length) ∙ sym (ap (part_of message) (is-asked (goal.at.returns c).In-Ok))
