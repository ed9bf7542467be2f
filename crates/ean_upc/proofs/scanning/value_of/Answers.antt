-- `ean_upc::scanning::value_of` meets its contract: the candidate is the widths' value where its pattern equals them, and else they have none.
use mathlib.Core.Path.{sym, ◌∙◌}
use native.Mathlib.Omega.{arith}
use Rattle.patterns.proofs.PatternLaws.{same_true, same_false}
use Rattle.patterns.specs.Matching.{Candidate}
use Rattle.patterns.proofs.MatchLaws.{match_found, match_none}
use Rattle.ean_upc.specs.Halves.{patterns_of}
use Rattle.ean_upc.proofs.SetLaws.{distinct_sets, candidate_in}
use Rattle.ean_upc.proofs.scanning.value_of.Goals.{After-candidate-value}
use Rattle.ean_upc.proofs.scanning.value_of.Goals as goal

only : (c : After-candidate-value) → Candidate (patterns_of c.args.sets) c.args.widths.now c.candidate-value.result
only c =
    let widths = c.args.widths.now in
    let sets = c.args.sets in
    let value = c.candidate-value.result in
    candidate_in sets widths value c.candidate-value.ensures

pub returns-then-count-place : goal.returns-then-count-place
returns-then-count-place c =
    let sets = c.args.sets in
    let widths = c.args.widths.now in
    let value = c.candidate-value.result in
    match_none (patterns_of sets) widths value (only (goal.at.returns-then-count-place c).After-candidate-value) (λ h is. omega (arith, c.count.ensures))

pub returns-then-equal : goal.returns-then-equal
returns-then-equal c =
    let sets = c.args.sets in
    let widths = c.args.widths.now in
    let value = c.candidate-value.result in
    match_found (patterns_of sets) widths value (distinct_sets sets) (omega arith)
    (sym (rw c.from-place.ensures at c.pattern-pattern.ensures) ∙ same_true _ widths (sym c.equal.ensures ∙ c.if-equal.true))

pub returns-else-equal : goal.returns-else-equal
returns-else-equal c =
    let sets = c.args.sets in
    let widths = c.args.widths.now in
    let value = c.candidate-value.result in
    match_none (patterns_of sets) widths value (only (goal.at.returns-else-equal c).After-candidate-value)
    (λ h is. same_false _ widths (sym c.equal.ensures ∙ c.if-equal.false) (c.pattern-pattern.ensures ∙ rw c.from-place.ensures is))
