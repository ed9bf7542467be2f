-- Halves drawn part by part: a guard and a half, a centre and a half, and a guard.
use Prim.Native.Nat.{ℕ, ◌+◌}
use mathlib.Core.Path.{◌≡◌, sym, ap}
use mathlib.Core.List.{List, ◌++◌, append_assoc}
use native.Mathlib.Omega.{arith}
use lib.ListN.{length, drop, length-append}
use Rattle.laws.proofs.Parts.{put, next_part, last_part}

module _ (before guard left centre right : List ℕ) (a e : ℕ) (left-long : length guard + length left ≡ a) (right_long : a + length centre + length right ≡ e) where
  front : length (guard ++ left) ≡ a
  front = rw length-append left-long

  both : length ((guard ++ left) ++ (centre ++ right)) ≡ e
  both = simp length-append (omega arith)

  abbrev drawn_both : List ℕ
  drawn_both = put a e ((guard ++ left) ++ drop a before) (centre ++ right)

  pub guarded_halves : put e (length drawn_both) drawn_both guard ≡ guard ++ left ++ centre ++ right ++ guard
  guarded_halves =
      rw (next_part before (guard ++ left) (centre ++ right) a e front (omega arith), last_part before ((guard ++ left) ++ (centre ++ right)) guard e both)
      (ap (λ (bars : List ℕ). bars ++ guard) (sym (append_assoc (guard ++ left) centre right)))
