-- `ean_upc::scanning::half` meets its contract: after i turns the scan's outcome is the i values that stand, in front of what is left to scan.
use Rattle.std.proofs.Common.{◌≡◌, ℕ, ◌+◌, ◌-◌, ◌*◌, length, take, drop, length-set, arith, sym, ap, refl, ◌∙◌}
use Rattle.laws.proofs.Results.{passed_on}
use Rattle.refusal.proofs.OwnLaws.{own_filled, own_passed}
use Rattle.patterns.proofs.ScanLaws.{scan_ends, scan_stops, scan_goes}
use Rattle.patterns.specs.Matching.{match_in}
use Rattle.ean_upc.specs.Halves.{patterns_of}
use Rattle.ean_upc.proofs.scanning.half.Goals.{After-value_of}
use Rattle.ean_upc.proofs.scanning.half.Goals as goal

answered : (c : After-value_of) → c.value_of.result ≡ match_in (patterns_of c.args.sets) (take 4 (drop (4 * c.loop-i.i) c.args.widths.now))
answered c =
    let i = c.loop-i.i in
    let size : 4 * i + 4 - 4 * i ≡ 4 = omega arith in
    c.value_of.ensures ∙ ap (λ (n : ℕ). match_in (patterns_of c.args.sets) (take n (drop (4 * i) c.args.widths.now))) size

pub returns-in_err-values : goal.returns-in_err-values
returns-in_err-values c =
    let none = c.in_err-values.ensures in
    let there = (goal.at.returns-in_err-values c).After-value_of in
    own_passed _ _ _ _ _ (passed_on _ c.in_err-values.field-0.0 c.from_residual.ensures.1 ∙ rw none.ok_part at none.value)
    (scan_stops (patterns_of c.args.sets) 4 (length c.args.values.now) c.args.place c.args.widths.now c.loop-i.values c.loop-i.i (omega arith) c.loop-i.invariant.1 (sym none.ok_part ∙ answered there))

pub loop-i-preserved : goal.loop-i-preserved
loop-i-preserved c =
    let there = (goal.at.loop-i-preserved c).After-value_of in (
      simp length-set (omega arith),
      scan_goes (patterns_of c.args.sets) 4 (length c.args.values.now) c.args.place c.args.widths.now c.loop-i.values c.loop-i.i (omega arith) c.loop-i.invariant.1
          c.in_ok-values.field-0 (omega arith) (sym c.in_ok-values.ensures.ok_part ∙ answered there),
    )

pub returns : goal.returns
returns c =
    let args = c.args in
    let values = c.loop-i.values in
    let all = length args.values.now in
    let over : c.loop-i.i ≡ all = omega arith in
    own_filled _ _ values _
    (scan_ends (patterns_of args.sets) 4 all args.place args.widths.now values (omega arith) (rw over at c.loop-i.invariant.1))
    refl (omega arith)
