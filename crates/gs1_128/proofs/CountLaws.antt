-- A permitted count is 6n + 19 with n from 2 to 100.
use Prim.Native.Nat.{ℕ, ◌+◌, ◌-◌, ◌*◌, ◌/◌, ◌%◌, ◌≤◌}
use mathlib.Core.Path.{◌≡◌}
use mathlib.Core.Bool.{true, ◌&&◌}
use native.Mathlib.Omega.{arith}
use lib.Dec.{leb, eqb}
use borrow.Author.Tests.{leb-true, eqb-true}
use Rattle.laws.proofs.Booleans.{both_hold}
use Rattle.gs1_128.specs.Symbol.{permitted}

pub record Counted (count n : ℕ) : Type 0 where
  pub least : 2 ≤ n
  pub most : n ≤ 100
  pub whole : count ≡ 6 * n + 19

pub count_permitted : (count : ℕ) → permitted count ≡ true → Counted count ((count - 19) / 6)
count_permitted count e =
    let a = both_hold (leb 31 count && leb count 619) (eqb ((count - 19) % 6) 0) e in
    let b = both_hold (leb 31 count) (leb count 619) a.0 in
    let low = leb-true 31 count b.0 in
    let high = leb-true count 619 b.1 in
    let even = eqb-true ((count - 19) % 6) 0 a.1 in
    record { least = omega arith; most = omega arith; whole = omega arith }
