-- `itf14::scanning::pair_values` meets its contract: the tests that led to each `return` are the rule's lines; the values found so far, before
-- those of the pairs that are left, are what the rule makes, and the first pair that matches nothing decides.
use Prim.Native.Nat.{ℕ, ◌+◌, ◌-◌, ◌*◌}
use mathlib.Core.Path.{◌≡◌, sym, ap, ap₂, ◌∙◌}
use mathlib.Core.Bool.{true}
use mathlib.Core.List.{List}
use native.Mathlib.Nat.{zero-add}
use native.Mathlib.Omega.{arith}
use lib.ListN.{length, take, drop, length-drop, length-set}
use lib.Seq.{take_all, drop-drop}
use borrow.Author.Tests.{eq-eqb, ne_eqb}
use Rattle.laws.proofs.Results.{passed_on}
use Rattle.refusal.specs.declared.Refusal.TheVariants.{Count, Guard, Pattern}
use Rattle.refusal.specs.Outcome.{refused}
use Rattle.refusal.proofs.OwnLaws.{own_filled, own_refused, own_passed}
use Rattle.patterns.specs.Patterns.{same, characters}
use Rattle.patterns.specs.Matching.{match_in}
use Rattle.patterns.specs.Between.{between}
use Rattle.patterns.proofs.ScanLaws.{scan_ends, scan_stops, scan_goes}
use Rattle.itf14.specs.Tables.{pairs, start, stop}
use Rattle.itf14.proofs.scanning.pair_values.Goals.{After-equal-2, After-pair_value, Else-not-equal-2}
use Rattle.itf14.proofs.scanning.pair_values.Goals as goal

pub returns-then-widths-ne-WIDTHS : goal.returns-then-widths-ne-WIDTHS
unfolding between
returns-then-widths-ne-WIDTHS c =
    own_refused _ _ _ Count (rw (ne_eqb _ _ c.if-widths-ne-WIDTHS.true))

pub returns-then-not-equal : goal.returns-then-not-equal
unfolding between
returns-then-not-equal c =
    own_refused _ _ _ Guard (rw (eq-eqb _ _ c.if-widths-ne-WIDTHS.false, sym c.equal.ensures ∙ c.if-not-equal.true))

starts : (c : After-equal-2) → same (take 4 c.args.widths.now) start ≡ true
starts c =
    sym c.equal.ensures ∙ c.if-not-equal.false

stop-compared : (c : After-equal-2) → same (drop 74 c.args.widths.now) stop ≡ c.equal-2.result
stop-compared c =
    let widths = c.args.widths.now in
    sym (c.equal-2.ensures ∙ ap (λ (part : List ℕ). same part stop) (take_all (length widths - 74) (drop 74 widths) (rw length-drop (omega arith))))

pub returns-then-not-equal-2 : goal.returns-then-not-equal-2
unfolding between
returns-then-not-equal-2 c =
    let there = (goal.at.returns-then-not-equal-2 c).After-equal-2 in
    let counted = c.if-widths-ne-WIDTHS.false in
    own_refused _ _ _ Guard (rw (eq-eqb _ _ counted, starts there, stop-compared there ∙ c.if-not-equal-2.true))

-- the pairs are left to scan
scanning : (c : Else-not-equal-2) → same (take 4 c.args.widths.now) start ≡ true → same (drop 74 c.args.widths.now) stop ≡ c.equal-2.result → between start stop pairs 10 7 c.args.widths.now ≡ characters pairs 10 7 0 (drop 4 c.args.widths.now)
unfolding between
scanning c starts compared =
    rw (eq-eqb _ _ c.if-widths-ne-WIDTHS.false, starts, compared ∙ c.if-not-equal-2.false)

answered : (c : After-pair_value) → c.pair_value.result ≡ match_in pairs (take 10 (drop (10 * c.loop-i.i) (drop 4 c.args.widths.now)))
answered c =
    let i = c.loop-i.i in
    let widths = c.args.widths.now in
    let size : 4 + 10 * i + 10 - (4 + 10 * i) ≡ 10 = omega arith in
    c.pair_value.ensures ∙ ap₂ (λ (n : ℕ) (part : List ℕ). match_in pairs (take n part)) size (sym (drop-drop (10 * i) 4 widths))

pub returns-in_err-values : goal.returns-in_err-values
returns-in_err-values c =
    let i = c.loop-i.i in
    let none = c.in_err-values.ensures in
    let there = (goal.at.returns-in_err-values c).After-equal-2 in
    own_passed _ _ _ (Pattern i) _ (passed_on _ c.in_err-values.field-0.0 c.from_residual.ensures.1 ∙ rw none.ok_part at none.value)
    (scanning (goal.at.returns-in_err-values c).Else-not-equal-2 (starts there) (stop-compared there)
    ∙ scan_stops pairs 10 7 0 (drop 4 c.args.widths.now) c.loop-i.values i (omega arith) c.loop-i.invariant.1 (sym none.ok_part ∙ answered (goal.at.returns-in_err-values c).After-pair_value)
    ∙ ap (λ (n : ℕ). refused (Pattern n)) (zero-add i))

pub loop-i-preserved : goal.loop-i-preserved
loop-i-preserved c = (
  simp length-set (omega arith),
  scan_goes pairs 10 7 0 (drop 4 c.args.widths.now) c.loop-i.values c.loop-i.i (omega arith) c.loop-i.invariant.1 c.in_ok-values.field-0 (omega arith)
      (sym c.in_ok-values.ensures.ok_part ∙ answered (goal.at.loop-i-preserved c).After-pair_value),
)

pub returns : goal.returns
returns c =
    let values = c.loop-i.values in
    let over : c.loop-i.i ≡ 7 = omega arith in
    let there = (goal.at.returns c).After-equal-2 in
    own_filled _ _ values 7
    (scanning (goal.at.returns c).Else-not-equal-2 (starts there) (stop-compared there) ∙ scan_ends pairs 10 7 0 (drop 4 c.args.widths.now) values (omega arith) (rw over at c.loop-i.invariant.1))
    (omega arith) (omega arith)
