-- `calls::messages::add_data` meets its contract: the data end at the first space, and the message begins after it.
use Prim.Native.Nat.{ℕ, ◌+◌, ◌-◌}
use mathlib.Core.Path.{◌≡◌, sym, ap, ap₂, ◌∙◌}
use mathlib.Core.Bool.{Bool, true, false, cond}
use mathlib.Core.List.{List}
use native.Mathlib.Omega.{arith}
use lib.ListN.{length, take, drop, length-drop}
use lib.Seq.{length-take-le, take_all}
use lib.Dec.{eqb}
use borrow.Author.Tests.{eq-eqb, ne_eqb}
use Rattle.text.proofs.PutsLaws.{puts_same}
use Rattle.requests.specs.declared.Argument.TheVariants.{Message}
use Rattle.requests.specs.declared.Fault.TheVariants.{Missing}
use Rattle.requests.specs.Requests.{size_at, word_at}
use Rattle.requests.specs.Texts.{fault_line}
use Rattle.calls.specs.Answers.{added_line, add_after}
use Rattle.calls.proofs.messages.add_data.Goals.{After-add_to}
use Rattle.calls.proofs.messages.add_data.Goals as goal

-- the rule, where its test comes out so
by-test : (places identifier : ℕ) (typed : List ℕ) (b : Bool) → eqb (0 + size_at typed 0) (length typed) ≡ b → add_after places identifier typed ≡ cond b (fault_line (Missing Message)) (added_line places identifier (word_at typed 0) (drop (0 + size_at typed 0 + 1) typed))
by-test places identifier typed b is =
    ap (λ (t : Bool). cond t (fault_line (Missing Message)) (added_line places identifier (word_at typed 0) (drop (0 + size_at typed 0 + 1) typed))) is

pub returns-then-end-typed : goal.returns-then-end-typed
returns-then-end-typed c =
    puts_same _ _ _ _ _ (by-test _ _ _ true (eq-eqb _ _ (sym c.word_end-end.ensures.value ∙ c.if-end-typed.true))) c.put_fault.ensures

size : (c : After-add_to) → size_at c.args.typed.now 0 ≡ c.word_end-end.result
size c =
    omega (arith, c.word_end-end.ensures.value)

message : (c : After-add_to) → drop (0 + size_at c.args.typed.now 0 + 1) c.args.typed.now ≡ take (length c.args.typed.now - (c.word_end-end.result + 1)) (drop (c.word_end-end.result + 1) c.args.typed.now)
message c =
    let typed = c.args.typed.now in
    let end = c.word_end-end.result in
    let begins : 0 + size_at typed 0 + 1 ≡ end + 1 = omega (arith, (size c)) in
    ap (λ (n : ℕ). drop n typed) begins
    ∙ sym (take_all (length typed - (end + 1)) (drop (end + 1) typed) (rw length-drop (omega arith)))

line : (c : After-add_to) → add_after (length c.args.buffer.now) c.args.identifier c.args.typed.now ≡ added_line (length c.args.buffer.now) c.args.identifier (take c.word_end-end.result c.args.typed.now) (take (length c.args.typed.now - (c.word_end-end.result + 1)) (drop (c.word_end-end.result + 1) c.args.typed.now))
line c =
    let places = length c.args.buffer.now in
    let typed = c.args.typed.now in
    by-test places c.args.identifier typed false (ne_eqb _ _ (λ whole. c.if-end-typed.false (c.word_end-end.ensures.value ∙ whole)))
    ∙ ap₂ (added_line places c.args.identifier) (ap (λ (n : ℕ). take n typed) (size c)) (message c)

pub returns : goal.returns
returns c =
    puts_same _ _ _ _ _ (line (goal.at.returns c).After-add_to) c.add_to.ensures

pub slice_bounds-add_to-end : goal.slice_bounds-add_to-end
slice_bounds-add_to-end c =
    sym (length-take-le _ _ c.word_end-end.ensures.upper_bound)
