-- `scanning::start_of` meets its contract: the matcher finds values in the whole table, and a start is one from 103 on; each end that is
-- wrong is the rule's refusal 4.
use Rattle.std.proofs.Common.{◌≡◌, ℕ, ◌+◌, ◌-◌, ◌<◌, ◌≤◌, true, false, List, length, take, drop, Some, None, sym, ap, ◌∙◌, arith, length-drop}
use lib.Seq.{take_all}
use borrow.Author.Tests.{lt-ltb}
use Rattle.laws.proofs.Results.{passed_on}
use Rattle.refusal.specs.declared.Refusal.TheVariants.{Guard}
use Rattle.refusal.specs.Outcome.{made, refused}
use Rattle.refusal.specs.Fills.{answered}
use Rattle.patterns.specs.Patterns.{same, value_in}
use Rattle.patterns.proofs.MatchLaws.{value_of_match, value_of_nothing}
use Rattle.code128.specs.Characters.{patterns, stop}
use Rattle.code128.proofs.PatternLaws.{patterns_are}
use Rattle.gs1_128.specs.Symbol.{starts}
use Rattle.gs1_128.specs.Scanning.{guarded, start_in}
use Rattle.gs1_128.proofs.TableLaws.{value_start, no_start}
use Rattle.gs1_128.proofs.scanning.start_of.Goals.{In_ok-start, After-equal}
use Rattle.gs1_128.proofs.scanning.start_of.Goals as goal

module _ (widths : List ℕ) where
  abbrev front : ℕ
  front = value_in starts (take 6 widths)

  abbrev back : List ℕ
  back = drop (length widths - 7) widths

  no-start-there : front ≡ 3 → start_in widths ≡ refused Guard
  unfolding start_in guarded
  no-start-there e = rw e

  no-stop-there : front < 3 → same back stop ≡ false → start_in widths ≡ refused Guard
  unfolding start_in guarded
  no-stop-there h e = rw (lt-ltb front 3 h, e)

  both-there : (v : ℕ) → v ≡ 103 + front → front < 3 → same back stop ≡ true → start_in widths ≡ made v
  unfolding start_in guarded
  both-there v is h e = rw (lt-ltb front 3 h, e, is)

start-is : (widths : List ℕ) (start : ℕ) → (value_in patterns (take 6 widths) ≡ start) × (start < length patterns) → 103 ≤ start → (start ≡ 103 + front widths) × (front widths < 3)
start-is widths start found h = omega (arith, found, patterns_are, value_start (take 6 widths) (omega (arith, found.0)))

pub returns-in_err-start : goal.returns-in_err-start
returns-in_err-start c =
    let widths = c.args.widths.now in
    let six = take 6 widths in
    let f = c.in_err-start.field-0.0 in
    let missed : None ≡ c.value_of.result = grind arith in
    let is : Guard ≡ f = grind arith in
    let none = value_of_nothing patterns six (missed ∙ c.value_of.ensures) in
    rw (passed_on _ f c.from_residual.ensures.1)
    (sym (ap answered (no-start-there widths (omega (arith, none, patterns_are, value_start six (omega (arith, none, patterns_are)))) ∙ ap refused is)))

found : (c : In_ok-start) → (value_in patterns (take 6 c.args.widths.now) ≡ c.in_ok-start.start) × (c.in_ok-start.start < length patterns)
found c =
    let some : Some c.in_ok-start.start ≡ c.value_of.result = grind arith in
    value_of_match patterns (take 6 c.args.widths.now) c.in_ok-start.start (some ∙ c.value_of.ensures)

pub returns-then-start-lt-LEAST_START : goal.returns-then-start-lt-LEAST_START
returns-then-start-lt-LEAST_START c =
    let widths = c.args.widths.now in
    let there = found (goal.at.returns-then-start-lt-LEAST_START c).In_ok-start in
    sym (ap answered (no-start-there widths (no_start (take 6 widths) (omega (arith, there.0)))))

ends : (c : After-equal) → c.equal.result ≡ same (back c.args.widths.now) stop
ends c =
    let widths = c.args.widths.now in
    c.equal.ensures ∙ ap (λ (part : List ℕ). same part stop) (take_all (length widths - (length widths - 7)) (back widths) (rw length-drop (omega arith)))

pub returns-then-not-equal : goal.returns-then-not-equal
returns-then-not-equal c =
    let at = goal.at.returns-then-not-equal c in
    sym (ap answered (no-stop-there c.args.widths.now (start-is c.args.widths.now c.in_ok-start.start (found at.In_ok-start) c.if-start-lt-LEAST_START.false).1 (sym (ends at.After-equal) ∙ c.if-not-equal.true)))

pub returns : goal.returns
returns c =
    let at = goal.at.returns c in
    let start = start-is c.args.widths.now c.in_ok-start.start (found at.In_ok-start) c.if-start-lt-LEAST_START.false in
    rw c.from.ensures (sym (ap answered (both-there c.args.widths.now c.in_ok-start.start start.0 start.1 (sym (ends at.After-equal) ∙ c.if-not-equal.false))))
