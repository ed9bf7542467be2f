-- `itf14::drawing::symbol` meets its contract: the start is laid at the front, the pairs fill the seventy places after it, and the stop the last
-- three.
use Prim.Native.Nat.{ℕ, ◌+◌}
use mathlib.Core.Path.{◌≡◌, refl, ap, ◌∙◌}
use mathlib.Core.List.{List, ◌++◌, append-nil}
use native.Mathlib.Omega.{arith}
use lib.ListN.{length, drop, replicate, drop_of_length-le, length-append, length-take, length-drop}
use Rattle.laws.proofs.Parts.{put, next_part}
use Rattle.itf14.specs.Tables.{start, stop}
use Rattle.itf14.specs.Itf14.{symbol}
use Rattle.itf14.proofs.drawing.symbol.Goals as goal

-- the start, the pairs and the stop, each joined to what was drawn before it
whole : (before bars : List ℕ) → length before ≡ 77 → length bars ≡ 70 → put 74 77 (put 4 74 (start ++ drop 4 before) bars) stop ≡ start ++ bars ++ stop
whole before bars long seventy =
    ap (λ (l : List ℕ). put 74 77 l stop) (next_part before start bars 4 74 refl (omega arith))
    ∙ next_part before (start ++ bars) stop 74 77 (length-append start bars ∙ ap (λ (n : ℕ). 4 + n) seventy) (omega arith)
    ∙ ap (λ (rest : List ℕ). (start ++ bars ++ stop) ++ rest) (drop_of_length-le before {i = 77} (omega arith))
    ∙ append-nil (start ++ bars ++ stop)

pub returns : goal.returns
unfolding symbol
returns c =
    let bars = c.draw_pairs.new.to in
    let seventy : length bars ≡ 70 = omega (arith, simp (length-take, length-drop) at c.draw_pairs.auto.to) in
    rw (c.copy_from_slice.ensures.after, c.copy_from_slice-2.ensures.after)
    (whole (replicate 77 0) bars refl seventy ∙ ap (λ (middle : List ℕ). start ++ middle ++ stop) c.draw_pairs.ensures)
