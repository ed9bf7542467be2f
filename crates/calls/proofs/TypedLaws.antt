-- What the answer to widths that are typed tells: whether the text says any, and where they stand.
use Rattle.std.specs.Prelude.{Option, Some, None}
use Prim.Native.Nat.{ℕ, ◌≤◌}
use mathlib.Core.Path.{◌≡◌, refl, sym, ap}
use mathlib.Core.List.{List}
use native.Mathlib.Omega.{arith}
use lib.ListN.{length, take, length-take}
use Rattle.text.specs.Widths.{Said, widths, nothing, count_of, Takes}

pub unread : (said : Said) → None ≡ count_of said → said ≡ nothing
unread (widths list) e = absurd (let z : ◌≡◌ {A = ℕ} 0 1 = cc in omega arith)
unread nothing e = refl

pub at_front : (said : Said) (r : Option ℕ) (after : List ℕ) (n : ℕ) → r ≡ Some n → Takes said r after → (said ≡ widths (take n after)) × (n ≤ length after)
at_front (widths list) r after n is takes =
    let counted : n ≡ length list = cc (takes.count, is) in
    let front : take n after ≡ list = rw counted (takes.front list refl) in
    (ap widths (sym front), omega (arith, ap length front, length-take n after))
at_front nothing r after n is takes = absurd (let z : ◌≡◌ {A = ℕ} 0 1 = cc (takes.count, is) in omega arith)
