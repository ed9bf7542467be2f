-- `ean_upc::scanning::guarded` meets its contract: the three comparisons are those of the rule, the last of them on all that is left.
use Rattle.std.proofs.Common.{◌≡◌, length, ℕ, ◌+◌, ◌-◌, ◌*◌, List, take, drop, arith, ap, ◌∙◌}
use mathlib.Core.Bool.{◌&&◌}
use lib.ListN.{length-drop}
use lib.Seq.{take_all}
use Rattle.patterns.specs.Patterns.{same}
use Rattle.ean_upc.specs.Tables.{guard, centre}
use Rattle.ean_upc.specs.Halves.{guarded}
use Rattle.ean_upc.proofs.scanning.guarded.Goals.{then-equal, else-equal, Joined-equal}
use Rattle.ean_upc.proofs.scanning.guarded.Goals as goal

first_two : (c : Joined-equal) → c.if-equal.value ≡ (same (take 3 c.args.widths.now) guard && same (take 5 (drop (3 + 4 * c.args.count) c.args.widths.now)) centre)
first_two c =
    let n = c.args.count in
    let widths = c.args.widths.now in
    let five : 3 + 4 * n + 5 - (3 + 4 * n) ≡ 5 = omega arith in
    elim c.if-equal.branch [
      | then-equal w ↦ rw (← c.equal.ensures, w.if-equal.true) (w.value-is ∙ w.equal-then-equal.ensures ∙ ap (λ (k : ℕ). same (take k (drop (3 + 4 * n) widths)) centre) five)
      | else-equal w ↦ rw (← c.equal.ensures, w.if-equal.false) (w.value-is ∙ w.if-equal.false)
    ]

pub returns-then-equal-2 : goal.returns-then-equal-2
unfolding guarded
returns-then-equal-2 c =
    let n = c.args.count in
    let widths = c.args.widths.now in
    let end = 3 + 4 * n + 5 + 4 * n in
    rw (← first_two (goal.at.returns-then-equal-2 c).Joined-equal, c.if-equal-2.true)
    (c.equal-then-equal-2.ensures ∙ ap (λ (part : List ℕ). same part guard) (take_all (length widths - end) (drop end widths) (rw length-drop (omega arith))))

pub returns-else-equal-2 : goal.returns-else-equal-2
unfolding guarded
returns-else-equal-2 c =
    rw (← first_two (goal.at.returns-else-equal-2 c).Joined-equal, c.if-equal-2.false)
