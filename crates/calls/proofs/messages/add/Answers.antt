-- `calls::messages::add` meets its contract: what follows the identifier are the data and the message.
use Rattle.std.specs.Prelude.{Result, Ok}
use Prim.Native.Nat.{ℕ, ◌-◌}
use mathlib.Core.Path.{◌≡◌, sym, ap, subst, ◌∙◌}
use mathlib.Core.List.{List}
use native.Mathlib.Omega.{arith}
use lib.ListN.{length, take, drop, length-drop}
use lib.Seq.{take_all}
use Rattle.text.proofs.PutsLaws.{puts_same}
use Rattle.requests.specs.declared.Fault.{Fault}
use Rattle.requests.specs.declared.Argument.TheVariants.{Data}
use Rattle.requests.specs.Requests.{leading_of, LeadsWithin}
use Rattle.calls.specs.Answers.{add_after, added_by, add_typed}
use Rattle.calls.proofs.LeadingLaws.{added_alike}
use Rattle.calls.proofs.messages.add.Goals.{In-Ok}
use Rattle.calls.proofs.messages.add.Goals as goal

within : (c : In-Ok) → LeadsWithin (Ok (c.in-Ok.identifier, c.in-Ok.from)) (length c.args.typed.now)
within c =
    let typed = c.args.typed.now in
    subst (λ (leading : Result (ℕ × ℕ) Fault). LeadsWithin leading (length typed)) c.in-Ok.is c.identifier_in.ensures.leads_within

rest : (c : In-Ok) → take (length c.args.typed.now - c.in-Ok.from) (drop c.in-Ok.from c.args.typed.now) ≡ drop c.in-Ok.from c.args.typed.now
rest c =
    let typed = c.args.typed.now in
    take_all (length typed - c.in-Ok.from) (drop c.in-Ok.from typed) (rw length-drop (omega arith))

line : (c : In-Ok) → add_typed (length c.args.buffer.now) c.args.typed.now ≡ added_by (length c.args.buffer.now) c.args.typed.now (Ok (c.in-Ok.identifier, c.in-Ok.from))
line c =
    let typed = c.args.typed.now in
    let places = length c.args.buffer.now in
    added_alike places typed (leading_of typed Data) ∙ ap (added_by places typed) (sym c.identifier_in.ensures.value ∙ c.in-Ok.is)

pub returns-in-Ok : goal.returns-in-Ok
returns-in-Ok c =
    let there = (goal.at.returns-in-Ok c).In-Ok in
    let places = length c.args.buffer.now in
    puts_same _ _ _ _ _ (line there ∙ ap (λ (message : List ℕ). add_after places c.in-Ok.identifier message) (sym (rest there))) c.add_data.ensures

pub returns-in-Err : goal.returns-in-Err
returns-in-Err c =
    let found = c.identifier_in in
    let args = c.args in
    let typed = args.typed.now in
    let places = length args.buffer.now in
    puts_same _ _ _ _ _ (added_alike places typed (leading_of typed Data) ∙ ap (added_by places typed) (sym found.ensures.value ∙ c.in-Err.is)) c.put_fault.ensures

pub slice_bounds-add_data-count : goal.slice_bounds-add_data-count
slice_bounds-add_data-count c =
    within (goal.at.slice_bounds-add_data-count c).In-Ok

pub slice_bounds-add_data-start : goal.slice_bounds-add_data-start
slice_bounds-add_data-start c =
    within (goal.at.slice_bounds-add_data-start c).In-Ok
