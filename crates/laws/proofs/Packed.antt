-- Equally many bytes that are packed into the same number are the same: the remainder by 256 gives the first of them, the quotient the rest.
use Prim.Native.Nat.{ℕ, suc, ◌<◌, suc-le-suc}
use mathlib.Core.Path.{◌≡◌, refl, ap₂}
use mathlib.Core.List.{List, [], ◌∷◌}
use native.Mathlib.Nat.{suc_inj}
use native.Mathlib.Omega.{arith}
use lib.ListN.{length, get_or}
use Rattle.laws.specs.Packed.{packed}

-- every element is a byte
abbrev pub Bytes : List ℕ → Type 0
Bytes xs = (i : ℕ) → i < length xs → get_or xs i 0 < 256

pub packed_same : (xs ys : List ℕ) → length xs ≡ length ys → Bytes xs → Bytes ys → packed xs ≡ packed ys → xs ≡ ys
unfolding packed
packed_same [] [] l bx by e = refl
packed_same [] (y ∷ ys) l bx by e = absurd (omega arith)
packed_same (x ∷ xs) [] l bx by e = absurd (omega arith)
packed_same (x ∷ xs) (y ∷ ys) l bx by e =
    let small-x : x < 256 = bx 0 (omega arith) in
    let small-y : y < 256 = by 0 (omega arith) in
    let first : x ≡ y = omega arith in
    let rest : packed xs ≡ packed ys = omega arith in
    ap₂ (λ (z : ℕ) (zs : List ℕ). z ∷ zs) first
    (packed_same xs ys (suc_inj l) (λ i h. bx (suc i) (suc-le-suc h)) (λ i h. by (suc i) (suc-le-suc h)) rest)
