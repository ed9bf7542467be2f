-- What the law of `Answerer` comes to: a line of `over` bytes or more is answered like its first `over` bytes, so of a line that hasn't ended what
-- is held suffices, whatever comes after it.
use Rattle.std.proofs.Common.{ℕ, ◌≡◌, ◌≤◌, List, ◌++◌, length, take, drop, length-append, arith}
use native.Mathlib.Decide.{dec_le}
use lib.Seq.{take_all, length-take-le}
use Rattle.serving.specs.Block.{Held}

module _ {R : Type 0} (answer : List ℕ → R) (over : ℕ) (alike : (line other : List ℕ) → over ≤ length line → over ≤ length other → answer line ≡ answer other) where
  -- a line that has begun, cut, and the bytes that come after it
  pub held_as_whole : (begun rest : List ℕ) → answer (take over begun ++ rest) ≡ answer (begun ++ rest)
  held_as_whole begun rest = go (dec_le (length begun) over)
    where
      go : Dec (length begun ≤ over) → answer (take over begun ++ rest) ≡ answer (begun ++ rest)
      go (yes few) = rw (take_all over begun few)
      go (no many) =
          alike (take over begun ++ rest) (begun ++ rest)
          (rw length-append (omega (arith, length-take-le over begun (omega arith))))
          (rw length-append (omega arith))

  -- so the line that a block leaves is answered from what is held of it
  pub held_answers : (block : List ℕ) (held : ℕ) (after rest : List ℕ) (h : Held over block held after) → answer (take held after ++ rest) ≡ answer (drop h.next block ++ rest)
  held_answers block held after rest h = rw h.holds.kept (held_as_whole (drop h.next block) rest)
