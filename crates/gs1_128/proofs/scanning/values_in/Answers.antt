-- `scanning::values_in` meets its contract: the values found so far, before those of the characters that are left, are what the rule makes;
-- the first character that matches nothing decides.
use Rattle.std.proofs.Common.{◌≡◌, ◌≤◌, ℕ, ◌+◌, ◌-◌, ◌*◌, List, length, take, drop, Some, None, refl, sym, ap, ap₂, ◌∙◌, arith}
use lib.Seq.{drop-drop}
use Rattle.laws.proofs.Results.{passed_on}
use Rattle.refusal.specs.declared.Refusal.TheVariants.{Pattern}
use Rattle.refusal.specs.Outcome.{refused}
use Rattle.refusal.proofs.OwnLaws.{own_filled, own_refused}
use Rattle.patterns.specs.Patterns.{characters}
use Rattle.patterns.specs.Matching.{match_in}
use Rattle.patterns.proofs.ScanLaws.{scan_begins, scan_ends, scan_stops, scan_goes}
use Rattle.gs1_128.specs.Symbol.{count_of, allowed}
use Rattle.gs1_128.specs.Scanning.{values_in}
use Rattle.gs1_128.proofs.scanning.values_in.Goals.{After-allowed_value}
use Rattle.gs1_128.proofs.scanning.values_in.Goals as goal

-- the widths of the character after i others, the start not counted, as the matcher is handed them
part-is : (widths : List ℕ) (i k : ℕ) → k ≡ 6 → take k (drop (6 * (i + 1)) widths) ≡ take 6 (drop (6 * i) (drop 6 widths))
part-is widths i k e =
    let from : 6 * (i + 1) ≡ 6 + 6 * i = omega arith in
    ap₂ (λ (m n : ℕ). take m (drop n widths)) e from ∙ ap (take 6) (sym (drop-drop (6 * i) 6 widths))

counts : (widths : List ℕ) (n : ℕ) → 1 ≤ n → length widths ≡ 6 * n + 13 → values_in widths ≡ characters allowed 6 n 1 (drop 6 widths)
counts widths n least e =
    let is : count_of widths + 1 ≡ n = omega arith in
    rw is

answers : (c : After-allowed_value) → c.allowed_value.result ≡ match_in allowed (take 6 (drop (6 * c.loop-i.i) (drop 6 c.args.widths.now)))
answers c =
    let widths = c.args.widths.now in
    let i = c.loop-i.i in
    c.allowed_value.ensures ∙ ap (match_in allowed) (part-is widths i (6 * (i + 1) + 6 - 6 * (i + 1)) (omega arith))

pub loop-i-init : goal.loop-i-init
loop-i-init c =
    let values = c.args.values.now in
    scan_begins allowed 6 (length values) 1 (drop 6 c.args.widths.now) values

pub returns-in_err-values : goal.returns-in_err-values
returns-in_err-values c =
    let loop = c.loop-i in
    let n = length c.args.values.now in
    let widths = c.args.widths.now in
    let f = c.in_err-values.field-0.0 in
    let none : None ≡ c.allowed_value.result = grind arith in
    let is : Pattern (1 + loop.i) ≡ f = grind arith in
    rw (passed_on _ f c.from_residual.ensures.1)
    (own_refused _ _ _ f
    (counts widths n c.requires.in_bounds c.requires.widths_len
    ∙ scan_stops allowed 6 n 1 (drop 6 widths) loop.values loop.i c.loop-i-test.true loop.invariant (none ∙ answers (goal.at.returns-in_err-values c).After-allowed_value)
    ∙ ap refused is))

pub loop-i-preserved : goal.loop-i-preserved
loop-i-preserved c =
    let loop = c.loop-i in
    let v = c.in_ok-values.field-0 in
    let some : Some v ≡ c.allowed_value.result = grind arith in
    scan_goes allowed 6 (length c.args.values.now) 1 (drop 6 c.args.widths.now) loop.values loop.i c.loop-i-test.true loop.invariant v loop.auto.values
    (some ∙ answers (goal.at.loop-i-preserved c).After-allowed_value)

pub returns : goal.returns
returns c =
    let loop = c.loop-i in
    let n = length c.args.values.now in
    let widths = c.args.widths.now in
    let over : loop.i ≡ n = omega arith in
    own_filled _ _ loop.values _
    (counts widths n c.requires.in_bounds c.requires.widths_len ∙ scan_ends allowed 6 n 1 (drop 6 widths) loop.values loop.auto.values (rw over at loop.invariant))
    refl (sym loop.auto.values)
