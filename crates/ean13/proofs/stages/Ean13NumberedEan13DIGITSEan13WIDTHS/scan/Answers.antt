-- EAN-13's scan meets its contract: the halves' refusal is the rule's, the letters of the left half have a row or are refused at 12, and the
-- first digit stands before those of the values.
use Rattle.std.proofs.Common.{◌≡◌, ◌∙◌, sym, ap, subst, refl, ℕ, List, ◌∷◌, Ok}
use mathlib.Core.List.{append-nil}
use borrow.Author.Tests.{lt-ltb}
use Rattle.laws.specs.Below.{Below}
use Rattle.laws.proofs.BelowLaws.{below_more}
use Rattle.laws.proofs.Results.{passed_on}
use Rattle.refusal.specs.Outcome.{made}
use Rattle.refusal.proofs.FillsLaws.{refused_of_answer}
use Rattle.refusal.proofs.OwnLaws.{own_made}
use Rattle.patterns.proofs.MatchLaws.{value_of_match, value_of_nothing}
use Rattle.parity.specs.Rows.{by_first_digit}
use Rattle.parity.proofs.LetterLaws.{remainders_below}
use Rattle.ean_upc.specs.declared.tables.Sets.TheVariants.{AOrB}
use Rattle.ean_upc.specs.Halves.{halves_in}
use Rattle.ean_upc.proofs.HalvesLaws.{drawn_of_halves}
use Rattle.ean13.specs.Ean13.{first_of, scanned}
use Rattle.ean13.proofs.stages.Ean13NumberedEan13DIGITSEan13WIDTHS.scan.Goals.{After-digit_of}
use Rattle.ean13.proofs.stages.Ean13NumberedEan13DIGITSEan13WIDTHS.scan.Goals as goal

pub returns-in_err-halves : goal.returns-in_err-halves
unfolding scanned
returns-in_err-halves c =
    let widths = c.args.widths.now in
    let f = c.in_err-halves.field-0.0 in
    rw (passed_on _ f c.from_residual.ensures.1)
    (record { value = rw (refused_of_answer (halves_in AOrB 6 widths) f c.in_err-halves.ensures.answer) refl; below = tt })

scanned-halves : (c : After-digit_of) → halves_in AOrB 6 c.args.widths.now ≡ made c.halves.new.values
scanned-halves c =
    let widths = c.args.widths.now in
    own_made _ _ c.halves.new.values _ _ c.in_ok-halves.was c.halves.ensures (λ vs e. (drawn_of_halves AOrB 6 widths vs e).counted)

pub returns-in_default : goal.returns-in_default
unfolding scanned
returns-in_default c =
    let none : first_of c.halves.new.values ≡ 10 = value_of_nothing by_first_digit _ c.in_default.ensures in
    record { value = rw (scanned-halves (goal.at.returns-in_default c).After-digit_of, none) refl; below = tt }

pub returns : goal.returns
unfolding scanned
returns c =
    let first = c.in-Some.first in
    let values = c.halves.new.values in
    let found = value_of_match by_first_digit _ first c.in-Some.ensures in
    let ones = append-nil _ ∙ c.digits_of.ensures in
    record {
      value = rw (scanned-halves (goal.at.returns c).After-digit_of, found.0, lt-ltb first 10 found.1) (ap (λ (rest : List ℕ). Ok (first ∷ rest)) ones);
      below = subst (λ (rest : List ℕ). Below 10 (first ∷ rest)) (sym ones) (below_more 10 first _ found.1 (remainders_below values));
    }
