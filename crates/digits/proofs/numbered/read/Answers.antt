-- `digits::numbered::read` meets its contract: the scan's refusal is the rule's, and the number that was scanned is laid.
use Rattle.std.proofs.Common.{ap, ℕ, List, length}
use native.Mathlib.Omega.{arith}
use Rattle.laws.proofs.Results.{passed_on}
use Rattle.refusal.specs.Outcome.{Outcome}
use Rattle.refusal.proofs.FillsLaws.{fills_same, refused_of_answered, made_of_answered}
use Rattle.digits.specs.Numbered.{number_read}
use Rattle.digits.proofs.NumberedLaws.{read_refused}
use Rattle.digits.proofs.numbered.read.Goals as goal

pub returns-in_err-digits : goal.returns-in_err-digits
returns-in_err-digits g c =
    let f = c.in_err-digits.field-0.0 in
    rw (passed_on _ f c.from_residual.ensures.1)
    (read_refused _ (length c.args.number.now) f _ (refused_of_answered _ f c.in_err-digits.ensures.value))

pub lay_values-requires : goal.lay_values-requires
lay_values-requires g c =
    let sizes = g.met.S.Numbered.sizes in
    record { values_nonzero = omega (arith, sizes); values_len_bound = omega (arith, sizes); below = c.in_ok-digits.ensures.below }

pub returns : goal.returns
returns g c =
    let room = length c.args.number.now in
    fills_same _ _ _ _ _ (ap (λ (o : Outcome (List ℕ)). number_read o room) (made_of_answered _ _ c.in_ok-digits.ensures.value)) c.lay_values.ensures
