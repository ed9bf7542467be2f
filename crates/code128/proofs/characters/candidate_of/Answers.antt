-- `code128::characters::candidate_of` meets its contract: the candidate is one byte of the eight that are looked up.
use Prim.Native.Nat.{ℕ, ◌/◌, ◌%◌, ◌*◌, ◌^◌}
use mathlib.Core.Path.{ap}
use native.Mathlib.Omega.{arith}
use Rattle.code128.proofs.MatchingLaws.{candidate_below}
use Rattle.code128.proofs.characters.candidate_of.Goals as goal

pub returns : goal.returns
returns c =
    let key = c.args.key in
    let is = ap (λ (eight : ℕ). eight / 2 ^ (8 * (key % 8)) % 128) c.eight_of-eight.ensures in
    record { value = is; upper_bound = rw is (candidate_below key (omega arith)) }
