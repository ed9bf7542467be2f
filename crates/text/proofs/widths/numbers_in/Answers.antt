-- `text::widths::numbers_in` meets its contract: the widths that are taken and what is left of the text say what the whole text says,
-- and a turn takes one word. Each takes a byte or more, so there are no more of them than bytes and one.
use Rattle.std.proofs.Common.{◌≤◌, take, length-set, take-suc-set, add-one, ◌∙◌, rules, tests, arith}
use Rattle.std.proofs.lemmas.Fn.{always_returns_same}
use Rattle.text.specs.Widths.{numbers_in}
use Rattle.text.proofs.NumeralLaws.{number_within}
use Rattle.text.proofs.WidthsLaws.{is_space, takes_none, left_more, left_unread, fewer_left}
use Rattle.text.proofs.widths.numbers_in.Goals as goal

pub returns-in_err-width : goal.returns-in_err-width
returns-in_err-width c =
    let loop = c.loop-word in
    let met = c.in-Some.ensures.steps in
    let first = (met.2 is_space (always_returns_same _ _ _ (λ a r f k. search (rules, tests)))).1 in
    let unread = left_unread _ _ _ _ _ met.0 met.1 first (take loop.count loop.widths) c.in_err-width.ensures in
    rw c.from_residual.ensures (takes_none (numbers_in c.args.typed.now) loop.widths (loop.invariant.2 ∙ unread))

pub overflow_cast-widths : goal.overflow_cast-widths
overflow_cast-widths c =
    let width = c.in_ok-width.width in
    let within : width ≤ 255 = number_within c.in-Some.word.now 255 width c.in_ok-width.ensures in
    omega arith

pub loop-word-preserved : goal.loop-word-preserved
loop-word-preserved c =
    let loop = c.loop-word in
    let width = c.in_ok-width.width in
    let met = c.in-Some.ensures.steps in
    let first = (met.2 is_space (always_returns_same _ _ _ (λ a r f k. search (rules, tests)))).1 in
    let fewer = fewer_left _ _ _ _ _ met.0 met.1 first in
    let more = left_more _ _ _ _ _ met.0 met.1 first (take loop.count loop.widths) width c.in_ok-width.ensures in (
      omega arith,
      simp length-set (omega arith),
      rw (add-one loop.count, take-suc-set loop.widths loop.count width (omega arith)) (loop.invariant.2 ∙ more),
    )
