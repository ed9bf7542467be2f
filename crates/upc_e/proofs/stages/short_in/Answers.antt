-- `upc_e::stages::short_in` meets its contract: the characters' refusal is the rule's, their letters have a row or are refused at 12, and the
-- row's own digit stands after those of the values.
use Rattle.std.proofs.Common.{◌≡◌, ap, refl, List, ℕ, [], ◌∷◌, ◌++◌, Ok}
use borrow.Author.Tests.{lt-ltb}
use Rattle.laws.proofs.Results.{passed_on}
use Rattle.refusal.specs.Outcome.{made}
use Rattle.refusal.proofs.FillsLaws.{refused_of_answer}
use Rattle.refusal.proofs.OwnLaws.{own_made}
use Rattle.patterns.proofs.MatchLaws.{value_of_match, value_of_nothing}
use Rattle.parity.specs.Rows.{by_check_digit}
use Rattle.upc_e.specs.UpcE.{values_in, check_from, scanned}
use Rattle.upc_e.proofs.SymbolLaws.{framed_of_values}
use Rattle.upc_e.proofs.stages.short_in.Goals.{After-digit_of}
use Rattle.upc_e.proofs.stages.short_in.Goals as goal

pub returns-in_err-values_in : goal.returns-in_err-values_in
unfolding scanned
returns-in_err-values_in c =
    let f = c.in_err-values_in.field-0.0 in
    rw (passed_on _ f c.from_residual.ensures.1, refused_of_answer (values_in c.args.widths.now) f c.in_err-values_in.ensures.answer) refl

-- where the check digit was looked for
scanned-values : (c : After-digit_of) → values_in c.args.widths.now ≡ made c.values_in.new.values
scanned-values c =
    let widths = c.args.widths.now in
    own_made _ _ c.values_in.new.values _ _ c.in_ok-values_in.was c.values_in.ensures (λ vs e. (framed_of_values widths vs e).1)

pub returns-in_default : goal.returns-in_default
unfolding scanned
returns-in_default c =
    let none : check_from c.values_in.new.values ≡ 10 = value_of_nothing by_check_digit _ c.in_default.ensures in
    rw (scanned-values (goal.at.returns-in_default c).After-digit_of, none) refl

pub returns : goal.returns
unfolding scanned
returns c =
    let check = c.in-Some.check in
    let found = value_of_match by_check_digit _ check c.in-Some.ensures in
    rw (scanned-values (goal.at.returns c).After-digit_of, found.0, lt-ltb check 10 found.1) (ap (λ (ones : List ℕ). Ok (ones ++ (check ∷ []))) c.digits_of.ensures)
