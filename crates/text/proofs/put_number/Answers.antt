-- `text::put_number` meets its contract: 20 digits hold every number of 64 bits.
use native.Mathlib.Omega.{arith}
use Rattle.text.proofs.DecimalLaws.{length_of_decimal}
use Rattle.text.proofs.put_number.Goals as goal

pub put_digits-requires : goal.put_digits-requires
put_digits-requires c =
    omega (arith, length_of_decimal 19 c.args.n (omega arith))

pub returns : goal.returns
returns c =
    let put = c.put_digits in
    record { puts = put.ensures; upper_bound = omega (arith, length_of_decimal 19 c.args.n (omega arith), put.ensures.count) }
