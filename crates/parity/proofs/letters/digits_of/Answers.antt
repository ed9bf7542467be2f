-- `parity::letters::digits_of` meets its contract: after i turns the list holds the digits of the first i values, and then what it held.
use Rattle.std.proofs.Common.{◌%◌, length-set, arith}
use Rattle.laws.proofs.Copying.{mapped_more}
use Rattle.parity.proofs.letters.digits_of.Goals as goal

pub loop-i-preserved : goal.loop-i-preserved
loop-i-preserved c =
    (simp length-set (omega arith), rw c.loop-i.invariant.1 (mapped_more (λ v. v % 10) c.args.values.now _ c.loop-i.i 0 (omega arith) (omega arith)))
