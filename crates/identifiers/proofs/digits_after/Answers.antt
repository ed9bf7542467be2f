-- `identifiers::digits_after` meets its contract: each `return` is reached by the pairs of one run.
use Prim.Native.Nat.{ℕ}
use mathlib.Core.Path.{◌≡◌, sym, ap, ◌∙◌}
use mathlib.Core.Bool.{Bool, true, false, ◌||◌, or-false}
use native.Mathlib.Omega.{arith}
use lib.Dec.{eqb}
use borrow.Author.Tests.{eqb-true, ne_eqb}
use Rattle.laws.specs.First.{first_not}
use Rattle.laws.specs.Among.{place_in}
use Rattle.identifiers.specs.Rows.{digits_after}
use Rattle.laws.proofs.AmongLaws.{in_run}
use Rattle.identifiers.proofs.digits_after.Goals as goal

-- so many digits, as a test
abbrev are : ℕ → ℕ → Bool
are n pair = eqb (digits_after pair) n

pub returns-in-31 : goal.returns-in-31
unfolding digits_after place_in first_not
returns-in-31 c =
    rw c.in-31.is

pub returns-in-24 : goal.returns-in-24
unfolding digits_after place_in first_not
returns-in-24 c =
    let pair = c.args.pair in
    sym (eqb-true _ 3 (in_run (are 3) 24 2 true tt pair (omega arith) (omega arith)))

pub returns-in-24-2 : goal.returns-in-24-2
unfolding digits_after place_in first_not
returns-in-24-2 c =
    let pair = c.args.pair in
    sym (eqb-true _ 3 (in_run (are 3) 40 2 true tt pair (omega arith) (omega arith)))

pub returns-in_default : goal.returns-in_default
unfolding digits_after place_in first_not
returns-in_default c =
    sym (eqb-true _ 2 (in_run (are 2) 0 24 true tt c.args.pair (omega arith) (omega arith)))

pub returns-in_default-2 : goal.returns-in_default-2
unfolding digits_after place_in first_not
returns-in_default-2 c =
    let n = c.args.pair in
    let other : eqb n 31 ≡ false = ne_eqb n 31 (omega arith) in
    let test : (are 2 n || eqb n 31) ≡ true = in_run (λ (p : ℕ). are 2 p || eqb p 31) 26 14 true tt n (omega arith) (omega arith) in
    sym (eqb-true _ 2 (sym (or-false (are 2 n)) ∙ ap (λ (b : Bool). are 2 n || b) (sym other) ∙ test))

pub returns-in_default-3 : goal.returns-in_default-3
unfolding digits_after place_in first_not
returns-in_default-3 c =
    let pair = c.args.pair in
    sym (eqb-true _ 2 (in_run (are 2) 42 58 true tt pair (omega arith) (omega (arith, c.requires))))
