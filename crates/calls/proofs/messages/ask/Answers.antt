-- `calls::messages::ask` meets its contract: what follows the identifier is the message.
use Rattle.std.specs.Prelude.{Result, Ok}
use Prim.Native.Nat.{ℕ, ◌-◌}
use mathlib.Core.Path.{◌≡◌, sym, ap, subst, ◌∙◌}
use mathlib.Core.List.{List}
use native.Mathlib.Omega.{arith}
use lib.ListN.{length, take, drop, length-drop}
use lib.Seq.{take_all}
use Rattle.text.proofs.PutsLaws.{puts_same}
use Rattle.requests.specs.declared.Fault.{Fault}
use Rattle.requests.specs.declared.Argument.TheVariants.{Message}
use Rattle.requests.specs.Requests.{leading_of, LeadsWithin}
use Rattle.calls.specs.Answers.{asked_line, asked_by, ask_typed}
use Rattle.calls.proofs.LeadingLaws.{asked_alike}
use Rattle.calls.proofs.messages.ask.Goals.{In-Ok}
use Rattle.calls.proofs.messages.ask.Goals as goal

within : (c : In-Ok) → LeadsWithin (Ok (c.in-Ok.identifier, c.in-Ok.from)) (length c.args.typed.now)
within c =
    let typed = c.args.typed.now in
    subst (λ (leading : Result (ℕ × ℕ) Fault). LeadsWithin leading (length typed)) c.in-Ok.is c.identifier_in.ensures.leads_within

rest : (c : In-Ok) → take (length c.args.typed.now - c.in-Ok.from) (drop c.in-Ok.from c.args.typed.now) ≡ drop c.in-Ok.from c.args.typed.now
rest c =
    let typed = c.args.typed.now in
    take_all (length typed - c.in-Ok.from) (drop c.in-Ok.from typed) (rw length-drop (omega arith))

line : (c : In-Ok) → ask_typed c.args.typed.now ≡ asked_by c.args.typed.now (Ok (c.in-Ok.identifier, c.in-Ok.from))
line c =
    let typed = c.args.typed.now in
    asked_alike typed (leading_of typed Message) ∙ ap (asked_by typed) (sym c.identifier_in.ensures.value ∙ c.in-Ok.is)

pub returns-in-Ok : goal.returns-in-Ok
returns-in-Ok c =
    let there = (goal.at.returns-in-Ok c).In-Ok in
    puts_same _ _ _ _ _ (line there ∙ ap (λ (message : List ℕ). asked_line message c.in-Ok.identifier) (sym (rest there))) c.put_asked.ensures

pub returns-in-Err : goal.returns-in-Err
returns-in-Err c =
    let found = c.identifier_in in
    let typed = c.args.typed.now in
    puts_same _ _ _ _ _ (asked_alike typed (leading_of typed Message) ∙ ap (asked_by typed) (sym found.ensures.value ∙ c.in-Err.is)) c.put_fault.ensures

pub slice_bounds-put_asked-count : goal.slice_bounds-put_asked-count
slice_bounds-put_asked-count c =
    within (goal.at.slice_bounds-put_asked-count c).In-Ok

pub slice_bounds-put_asked-start : goal.slice_bounds-put_asked-start
slice_bounds-put_asked-start c =
    within (goal.at.slice_bounds-put_asked-start c).In-Ok
