-- `text::put_digits` meets its contract: a number below ten is one byte; any other is its tenth part, which is smaller, and one byte more.
use Prim.Native.Nat.{◌≤◌}
use mathlib.Core.List.{[]}
use native.Mathlib.Omega.{arith}
use Rattle.text.specs.Decimal.{last_of}
use Rattle.text.proofs.DecimalLaws.{decimal_one, decimal_more, length_one, length_more}
use Rattle.text.proofs.PutsLaws.{puts_none, puts_more}
use Rattle.text.proofs.+put_digits.Goals as goal

pub bounds-out-0 : goal.bounds-out-0
bounds-out-0 t c = omega (arith, length_one c.args.n c.if-n-lt10.true)

pub returns-then-n-lt10 : goal.returns-then-n-lt10
returns-then-n-lt10 t c =
    let n = c.args.n in
    let out = c.args.out.now in
    rw c.last_of.ensures (rw (decimal_one n c.if-n-lt10.true) (puts_more [] out 0 out (last_of n) (omega (arith, length_one n c.if-n-lt10.true)) (puts_none out)))

pub put_digits-at-requires : goal.put_digits-at-requires
put_digits-at-requires t c = (omega arith, omega (arith, length_more c.args.n c.if-n-lt10.false))

pub bounds-out-at : goal.bounds-out-at
bounds-out-at t c = omega (arith, length_more c.args.n c.if-n-lt10.false)

pub returns : goal.returns
returns t c =
    let n = c.args.n in
    let inner = c.put_digits-at in
    let large : 10 ≤ n = c.if-n-lt10.false in
    rw c.last_of-2.ensures (rw (decimal_more n large) (puts_more _ _ _ _ (last_of n) (omega (arith, inner.ensures.count, length_more n large)) inner.ensures))
