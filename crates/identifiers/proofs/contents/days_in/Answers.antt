-- `identifiers::contents::days_in` meets its contract: each arm has the tests of the definition behind it.
use Prim.Native.Nat.{◌%◌}
use mathlib.Core.List.{[], ◌∷◌}
use borrow.Author.Tests.{eq-eqb, ne_eqb}
use Rattle.laws.specs.First.{first_not}
use Rattle.laws.specs.Among.{place_in}
use Rattle.laws.proofs.AmongLaws.{one_among, not_among}
use Rattle.identifiers.specs.Data.{days_in}
use Rattle.identifiers.proofs.contents.days_in.Goals as goal

pub returns-in-4 : goal.returns-in-4
unfolding days_in
returns-in-4 c =
    rw (one_among (4 ∷ 6 ∷ 9 ∷ 11 ∷ []) _ c.in-4.is)

pub returns-then-year-eq0 : goal.returns-then-year-eq0
unfolding days_in place_in first_not
returns-then-year-eq0 c =
    rw (c.in-2.is, eq-eqb (c.args.year % 4) 0 c.if-year-eq0.true)

pub returns-else-year-eq0 : goal.returns-else-year-eq0
unfolding days_in place_in first_not
returns-else-year-eq0 c =
    rw (c.in-2.is, ne_eqb (c.args.year % 4) 0 c.if-year-eq0.false)

pub returns-in_default : goal.returns-in_default
unfolding days_in
returns-in_default c =
    let rest = c.in_default.in_default-own.rest in
    rw (not_among (4 ∷ 6 ∷ 9 ∷ 11 ∷ []) _ rest.0.1, ne_eqb _ 2 rest.1)
