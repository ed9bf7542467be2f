-- Bytes that are moved to the front are the beginning of what a block has left, whatever is read after them.
use Prim.Native.Nat.{ℕ, ◌+◌, ◌-◌, ◌≤◌, min}
use mathlib.Core.Path.{◌≡◌, sym, ap, ◌∙◌}
use mathlib.Core.List.{List, ◌++◌}
use native.Mathlib.Nat.{zero-add}
use native.Mathlib.Decide.{dec_le}
use native.Mathlib.Omega.{arith}
use lib.ListN.{length, take, drop, length-take, length-drop, length-append}
use lib.Seq.{length-take-le, take_all, take_at, drop_at, take-add, take-take}
use borrow.Rule.Slice.PartMut.{put_mid, take_put}
use Rattle.std.specs.List.{copy_within}
use Rattle.blocks.specs.Blocks.{Holds}

module _ (input : List ℕ) (filled start most held : ℕ)
    (within : filled ≤ length input) (begins : start ≤ filled) (count : held ≡ min (filled - start) most) where
  abbrev left : List ℕ
  left = drop start (take filled input)

  left_of_input : left ≡ take (filled - start) (drop start input)
  left_of_input =
      let on : start + (filled - start) ≡ filled = omega arith in
      ap (λ (n : ℕ). drop start (take n input)) (sym on)
      ∙ ap (drop start) (take-add start (filled - start) input)
      ∙ drop_at (take start input) (take (filled - start) (drop start input)) start (length-take-le start input (omega arith))

  beginning : Dec (most ≤ filled - start) → take held left ≡ take most left
  beginning (yes many) = let full : held ≡ most = omega arith in rw full
  beginning (no few) =
      let whole : length left ≡ filled - start = rw left_of_input (simp (length-take, length-drop) (omega arith)) in
      take_all held left (omega arith) ∙ sym (take_all most left (omega arith))

  pub holds_after : (kept : List ℕ) → kept ≡ copy_within input start (start + held) 0 → (read : List ℕ) → Holds (take filled input) start most held (put_mid held (length kept - held) kept read)
  holds_after kept copied read =
      let moves : start + held - start ≡ held = omega arith in
      let is : kept ≡ take held (drop start input) ++ drop held input = rw (moves, zero-add) at copied in
      let moved : length (take held (drop start input)) ≡ held = length-take-le held (drop start input) (rw length-drop (omega arith)) in
      let enough : held ≤ length kept = omega (arith, simp length-append at (ap length is)) in
      record {
        few = omega arith;
        kept =
            take_put held (length kept - held) kept read enough
            ∙ ap (take held) is
            ∙ take_at (take held (drop start input)) (drop held input) held moved
            ∙ sym (take-take held (filled - start) (drop start input) (omega arith))
            ∙ ap (take held) (sym left_of_input)
            ∙ beginning (dec_le most (filled - start));
      }
