-- A list written part by part: where all before a part is written, the part joins what is done, and the rest is what it was.
use Prim.Native.Nat.{ℕ, ◌+◌, ◌-◌, ◌≤◌}
use mathlib.Core.Path.{◌≡◌, sym, ap}
use mathlib.Core.List.{List, ◌++◌, append_assoc, append-nil}
use native.Mathlib.Omega.{arith}
use lib.ListN.{length, take, drop, length-drop, drop_of_length-le}
use lib.Seq.{take_at, drop_at, drop-drop}

module _ {A : Type 0} where
  -- a list whose elements from a up to e have been written anew
  abbrev pub put : ℕ → ℕ → List A → List A → List A
  put a e whole new = take a whole ++ (new ++ drop (e - a) (drop a whole))

  pub next_part : (before done new : List A) (a e : ℕ) → length done ≡ a → a ≤ e → put a e (done ++ drop a before) new ≡ (done ++ new) ++ drop e before
  next_part before done new a e long h =
      let on : a + (e - a) ≡ e = omega arith in
      rw (take_at done (drop a before) a long, drop_at done (drop a before) a long, drop-drop (e - a) a before, on)
      (sym (append_assoc done new (drop e before)))

  -- a part that goes on to the end
  pub last_part : (before done new : List A) (a : ℕ) → length done ≡ a → put a (length (done ++ drop a before)) (done ++ drop a before) new ≡ done ++ new
  last_part before done new a long =
      let whole = done ++ drop a before in
      rw (take_at done (drop a before) a long, drop_of_length-le (drop a whole) {i = length whole - a} (rw length-drop (omega arith)))
      (ap (λ (rest : List A). done ++ rest) (append-nil new))
