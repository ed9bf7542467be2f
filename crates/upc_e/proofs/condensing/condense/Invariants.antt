use Rattle.std.proofs.Common.{◌≡◌, drop}
use Rattle.upc_e.specs.Condensing.{shorts, first_fit, condensed}
use Rattle.upc_e.proofs.condensing.condense.Given as goal

abbrev pub invariant-loop-rule : goal.invariant-loop-rule
invariant-loop-rule l = condensed l.digits ≡ first_fit (drop l.rule (shorts l.digits)) l.digits
