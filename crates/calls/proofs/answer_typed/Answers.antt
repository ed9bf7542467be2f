-- `calls::answer_typed` meets its contract: what a line asks for is what it gets, and a call is lent as many places as the request says.
use Rattle.std.specs.Prelude.{Result, Ok}
use Prim.Native.Nat.{ℕ, ◌-◌, ◌≤◌}
use mathlib.Core.Path.{◌≡◌, sym, ap, ap₂, subst, ◌∙◌}
use mathlib.Core.List.{List}
use native.Mathlib.Omega.{arith}
use lib.ListN.{length, take, drop, length-take, length-drop}
use lib.Seq.{length-take-le, take_all}
use borrow.Author.Rules.{rules}
use Rattle.text.proofs.PutsLaws.{puts_same}
use Rattle.requests.specs.declared.Fault.{Fault}
use Rattle.requests.specs.declared.Request.{Request}
use Rattle.requests.specs.declared.Request.TheVariants.{Call}
use Rattle.requests.specs.Requests.{request_of, Within}
use Rattle.calls.specs.Answers.{called, answer_for, answer_by}
use Rattle.calls.proofs.answer_typed.Goals.{In-Ok-Call}
use Rattle.calls.proofs.answer_typed.Goals as goal

told : (c : In-Ok-Call) → c.request_of.result ≡ Ok (Call c.in-Ok-Call.word c.in-Ok-Call.places c.in-Ok-Call.from)
told c = c.in-Ok-Call.is ∙ ap Ok c.in-Ok-Call.field-0-is

within : (c : In-Ok-Call) → (c.in-Ok-Call.places ≤ 700) × (c.in-Ok-Call.from ≤ length c.args.line.now)
within c =
    subst (λ (request : Result Request Fault). Within request (length c.args.line.now)) (told c) c.request_of.ensures.within

lends : (c : In-Ok-Call) → length (take c.in-Ok-Call.places c.args.list.now) ≡ c.in-Ok-Call.places
lends c =
    let places = c.in-Ok-Call.places in
    length-take-le places c.args.list.now (omega (arith, within c))

rest : (c : In-Ok-Call) → take (length c.args.line.now - c.in-Ok-Call.from) (drop c.in-Ok-Call.from c.args.line.now) ≡ drop c.in-Ok-Call.from c.args.line.now
rest c =
    let line = c.args.line.now in
    let from = c.in-Ok-Call.from in
    take_all (length line - from) (drop from line) (rw length-drop (omega arith))

pub call-requires : goal.call-requires
call-requires c =
    let there = (goal.at.call-requires c).In-Ok-Call in
    record { list_len_bound = omega (arith, lends there, within there); typed_len_bound = rw (length-take, length-drop) (omega arith); in_bounds = search rules }

-- the rule, by what was found
by-request : (line : List ℕ) (r found : Result Request Fault) → r ≡ request_of line → r ≡ found → answer_by line ≡ answer_for line found
by-request line r found is told = ap (answer_for line) (sym is ∙ told)

pub returns-in-Ok-Call : goal.returns-in-Ok-Call
returns-in-Ok-Call c =
    let there = (goal.at.returns-in-Ok-Call c).In-Ok-Call in
    let same = ap₂ (called c.in-Ok-Call.word) (sym (lends there)) (sym (rest there)) in
    puts_same _ _ _ _ _ (by-request _ _ _ c.request_of.ensures.value (told there) ∙ same) c.call.ensures

pub returns-in-Ok-Help : goal.returns-in-Ok-Help
returns-in-Ok-Help c =
    puts_same _ _ _ _ _ (by-request _ _ _ c.request_of.ensures.value (c.in-Ok-Help.is ∙ ap Ok c.in-Ok-Help.field-0-is)) c.put_help.ensures

pub returns-in-Err : goal.returns-in-Err
returns-in-Err c =
    puts_same _ _ _ _ _ (by-request _ _ _ c.request_of.ensures.value c.in-Err.is) c.put_fault.ensures

pub slice_bounds-call-count : goal.slice_bounds-call-count
slice_bounds-call-count c =
    (within (goal.at.slice_bounds-call-count c).In-Ok-Call).1

pub slice_bounds-call-start : goal.slice_bounds-call-start
slice_bounds-call-start c =
    (within (goal.at.slice_bounds-call-start c).In-Ok-Call).1

pub slice_bounds-call-end-in-Ok-Call : goal.slice_bounds-call-end-in-Ok-Call
slice_bounds-call-end-in-Ok-Call c =
    omega (arith, within (goal.at.slice_bounds-call-end-in-Ok-Call c).In-Ok-Call)

pub slice_bounds-call-end-in-Ok-Call-2 : goal.slice_bounds-call-end-in-Ok-Call-2
slice_bounds-call-end-in-Ok-Call-2 c =
    sym (lends (goal.at.slice_bounds-call-end-in-Ok-Call-2 c).In-Ok-Call)
