-- `identifiers::pair_at` meets its contract: two digits make less than 100.
use Prim.Native.Nat.{ℕ, ◌+◌, ◌*◌, ◌<◌}
use mathlib.Core.Path.{ap₂}
use native.Mathlib.Omega.{arith}
use lib.ListN.{get_or}
use Rattle.digits.proofs.DigitLaws.{digit_range}
use Rattle.identifiers.proofs.pair_at.Goals.{After-value_of-2}
use Rattle.identifiers.proofs.pair_at.Goals as goal

pub value_of-requires : goal.value_of-requires
value_of-requires c =
    (digit_range _ c.requires.at_value).0

pub overflow_mul-result : goal.overflow_mul-result
overflow_mul-result c =
    let bytes = c.args.bytes.now in
    let at = c.args.at in
    let range = digit_range (get_or bytes at 0) c.requires.at_value in
    omega (arith, c.value_of.ensures)

pub value_of-requires-2 : goal.value_of-requires-2
value_of-requires-2 c =
    (digit_range _ c.requires.at_value_2).0

small : (c : After-value_of-2) → 10 * c.value_of.result + c.value_of-2.result < 100
small c =
    let bytes = c.args.bytes.now in
    let at = c.args.at in
    let first = digit_range (get_or bytes at 0) c.requires.at_value in
    let second = digit_range (get_or bytes (at + 1) 0) c.requires.at_value_2 in
    omega (arith, c.value_of.ensures, c.value_of-2.ensures)

pub overflow_add-result : goal.overflow_add-result
overflow_add-result c =
    omega (arith, small c)

pub returns : goal.returns
returns c =
    record { value = ap₂ (λ (a b : ℕ). 10 * a + b) c.value_of.ensures c.value_of-2.ensures; upper_bound = small c }
