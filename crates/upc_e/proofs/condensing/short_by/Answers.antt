-- `upc_e::condensing::short_by` meets its contract: each arm is its rule's row.
use Rattle.std.proofs.Common.{◌≡◌, refl}
use native.Mathlib.Omega.{arith}
use Rattle.upc_e.specs.Condensing.{shorts}
use Rattle.upc_e.proofs.condensing.short_by.Goals as goal

pub returns-in-0 : goal.returns-in-0
unfolding shorts
returns-in-0 c = rw c.in-0.is refl

pub returns-in-1 : goal.returns-in-1
unfolding shorts
returns-in-1 c = rw c.in-1.is refl

pub returns-in-2 : goal.returns-in-2
unfolding shorts
returns-in-2 c = rw c.in-2.is refl

pub returns-in_default : goal.returns-in_default
unfolding shorts
returns-in_default c =
    let third : c.args.rule ≡ 3 = omega arith in
    rw third refl
