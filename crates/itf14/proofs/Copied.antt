-- A loop that writes a list from the front, two elements a turn: each turn moves the seam by two.
use Prim.Native.Nat.{ℕ, ◌+◌, ◌*◌, ◌<◌}
use mathlib.Core.Path.{◌≡◌}
use mathlib.Core.List.{List, ◌++◌}
use native.Mathlib.Omega.{arith}
use lib.ListN.{length, get_or, set, take, drop}
use Rattle.laws.proofs.Copying.{copied_more}

module _ (xs ys : List ℕ) where
  pub copied_two : (i : ℕ) → 2 * i + 1 < length xs → length ys ≡ length xs → set (set (take (2 * i) xs ++ drop (2 * i) ys) (2 * i) (get_or xs (2 * i) 0)) (2 * i + 1) (get_or xs (2 * i + 1) 0) ≡ take (2 * (i + 1)) xs ++ drop (2 * (i + 1)) ys
  copied_two i h e =
      let next : 2 * i + 1 + 1 ≡ 2 * (i + 1) = omega arith in
      rw (copied_more xs ys (2 * i) 0 (omega arith) (omega arith), copied_more xs ys (2 * i + 1) 0 (omega arith) (omega arith), next)
