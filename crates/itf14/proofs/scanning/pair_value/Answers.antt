-- `itf14::scanning::pair_value` meets its contract: the digits that the widths weigh are the only ones that the widths can draw, and the
-- comparison tells whether they do.
use Prim.Native.Nat.{ℕ, ◌+◌, ◌*◌}
use mathlib.Core.Path.{sym, ap₂, ◌∙◌, subst}
use native.Mathlib.Omega.{arith}
use Rattle.patterns.specs.Matching.{Candidate}
use Rattle.patterns.proofs.PatternLaws.{same_true, same_false}
use Rattle.patterns.proofs.MatchLaws.{match_found, match_none}
use Rattle.itf14.specs.Tables.{pairs}
use Rattle.itf14.proofs.PairLaws.{length_pairs, distinct_pairs, one_pair}
use Rattle.itf14.proofs.scanning.pair_value.Goals.{After-equal}
use Rattle.itf14.proofs.scanning.pair_value.Goals as goal

only : (c : After-equal) → Candidate pairs c.args.widths.now (10 * c.candidate-first.result + c.candidate-second.result)
only c =
    let widths = c.args.widths.now in
    subst (Candidate pairs widths)
    (sym (ap₂ (λ (a b : ℕ). 10 * a + b) c.candidate-first.ensures.value c.candidate-second.ensures.value)) (one_pair widths)

pub returns-then-equal : goal.returns-then-equal
returns-then-equal c =
    let widths = c.args.widths.now in
    let value = 10 * c.candidate-first.result + c.candidate-second.result in
    match_found pairs widths value distinct_pairs (rw length_pairs (omega arith))
    (sym c.pair-pattern.ensures ∙ same_true _ widths (sym c.equal.ensures ∙ c.if-equal.true))

pub returns-else-equal : goal.returns-else-equal
returns-else-equal c =
    let widths = c.args.widths.now in
    let value = 10 * c.candidate-first.result + c.candidate-second.result in
    match_none pairs widths value (only (goal.at.returns-else-equal c).After-equal)
    (λ h is. same_false _ widths (sym c.equal.ensures ∙ c.if-equal.false) (c.pair-pattern.ensures ∙ is))
