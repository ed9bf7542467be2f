-- `calls::answer` meets its contract: a line of at most 4,096 bytes is typed as a whole.
use Prim.Native.Nat.{◌≤◌}
use mathlib.Core.Path.{◌≡◌, sym, ap, ◌∙◌}
use native.Mathlib.Omega.{arith}
use lib.ListN.{length, take, length-map}
use lib.Seq.{take_all}
use borrow.Author.Tests.{le-leb, lt-leb}
use Rattle.text.specs.Typed.{message_of}
use Rattle.text.proofs.PutsLaws.{puts_same, puts_front, puts_within}
use Rattle.calls.specs.Answers.{answer_by, answer_to}
use Rattle.calls.proofs.answer.Goals.{After-message_in-end}
use Rattle.calls.proofs.answer.Goals as goal

pub returns-then-line-gt-LONGEST_LINE : goal.returns-then-line-gt-LONGEST_LINE
unfolding answer_to
returns-then-line-gt-LONGEST_LINE c =
    let text = c.put_text in
    record { puts = rw (lt-leb _ 4096 c.if-line-gt-LONGEST_LINE.true) text.ensures; upper_bound = puts_within _ _ _ _ text.ensures text.auto.out }

short : (c : After-message_in-end) → length c.args.line.now ≤ 4096
short c =
    omega arith

whole : (c : After-message_in-end) → (take c.message_in-end.result c.message_in-end.new.message) ≡ message_of c.args.line.now
whole c =
    let line = c.args.line.now in
    puts_front _ _ _ _ c.message_in-end.ensures.puts ∙ take_all 4096 (message_of line) (rw length-map (omega arith))

pub returns : goal.returns
unfolding answer_to
returns c =
    let there = (goal.at.returns c).After-message_in-end in
    let line = c.args.line.now in
    let typed = c.answer_typed in
    record { puts = rw (le-leb (length line) 4096 (short there)) (puts_same _ _ _ _ _ (ap answer_by (sym (whole there))) typed.ensures); upper_bound = puts_within _ _ _ _ typed.ensures typed.auto.out }
