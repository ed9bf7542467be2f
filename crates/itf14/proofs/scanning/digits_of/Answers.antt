-- `itf14::scanning::digits_of` meets its contract: after i turns the list holds the two digits of each of i pairs, and then what it held.
use Rattle.std.proofs.Common.{◌≡◌, ◌*◌, arith}
use Rattle.itf14.specs.Itf14.{unpaired}
use Rattle.laws.proofs.Copying.{copied_whole}
use Rattle.itf14.proofs.Copied.{copied_two}
use Rattle.itf14.proofs.PairedLaws.{length_unpaired, unpaired_first, unpaired_second}
use Rattle.itf14.proofs.scanning.digits_of.Goals as goal

pub loop-i-preserved : goal.loop-i-preserved
loop-i-preserved c =
    let values = c.args.values.now in
    let i = c.loop-i.i in
    let long = length_unpaired values in
    rw (c.loop-i.invariant, ← unpaired_first values i, ← unpaired_second values i)
    (copied_two (unpaired values) c.args.digits.now i (omega arith) (omega arith))

pub returns : goal.returns
returns c =
    let values = c.args.values.now in
    let over : 2 * c.loop-i.i ≡ 14 = omega arith in
    rw (c.loop-i.invariant, over) (copied_whole (unpaired values) c.args.digits.now 14 (omega (arith, length_unpaired values)) (omega arith))
