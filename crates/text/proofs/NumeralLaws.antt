-- A numeral, met by a loop that reads it from the left: the number so far and the digits that are left say the whole, and the number so
-- far is never more than the whole.
use Rattle.std.specs.Prelude.{Option, Some, None}
use Prim.Native.Nat.{ℕ, suc, ◌+◌, ◌*◌, ◌≤◌, ◌<◌, min}
use mathlib.Core.Path.{◌≡◌, refl, sym, ◌∙◌}
use mathlib.Core.Bool.{Bool, true, false, cond, ◌&&◌}
use mathlib.Core.List.{List, [], ◌∷◌}
use native.Mathlib.Nat.{min-eq_left, min-eq_right}
use native.Mathlib.Decide.{dec_le}
use native.Mathlib.Omega.{arith}
use lib.ListN.{length, get_or, drop}
use lib.Seq.{drop-cons}
use lib.Dec.{leb}
use borrow.Author.Tests.{lt-leb, leb-true}
use Rattle.laws.proofs.Booleans.{both_hold}
use Rattle.digits.specs.Digit.{value_of}
use Rattle.text.specs.Numeral.{is_numeral, number_from, number_in, capped_in}

pub number_of_nil : (n : ℕ) → number_from n [] ≡ n
unfolding number_from
number_of_nil n = refl

pub number_more : (n : ℕ) (bytes : List ℕ) (i : ℕ) → i < length bytes → number_from n (drop i bytes) ≡ number_from (n * 10 + value_of (get_or bytes i 0)) (drop (suc i) bytes)
unfolding number_from
number_more n bytes i h = rw (drop-cons bytes i 0 h)

pub number_grows : (n : ℕ) (bytes : List ℕ) → n ≤ number_from n bytes
unfolding number_from
number_grows n [] = omega arith
number_grows n (b ∷ bytes) = omega (arith, number_grows (n * 10 + value_of b) bytes)

-- a number that is cut to `cap` where it is larger says no less of what comes to `cap` or less
pub capped_more : (n cap : ℕ) (bytes : List ℕ) → min (number_from (min n cap) bytes) cap ≡ min (number_from n bytes) cap
capped_more n cap bytes = go (dec_le n cap)
  where
    go : Dec (n ≤ cap) → min (number_from (min n cap) bytes) cap ≡ min (number_from n bytes) cap
    go (yes few) = rw (min-eq_left few)
    go (no many) =
        let cut : min n cap ≡ cap = min-eq_right {n = cap} {m = n} (omega arith) in
        rw cut
        (min-eq_right {n = cap} {m = number_from cap bytes} (number_grows cap bytes)
        ∙ sym (min-eq_right {n = cap} {m = number_from n bytes} (omega (arith, number_grows n bytes))))

-- what a numeral says that was cut to one more than it may say
abbrev pub uncut : ℕ → Option ℕ → Option ℕ
uncut most (Some n) = cond (leb n most) (Some n) None
uncut most None = None

pub number_of_capped : (bytes : List ℕ) (most : ℕ) → number_in bytes most ≡ uncut most (capped_in bytes (most + 1))
unfolding number_in capped_in
number_of_capped bytes most = go (is_numeral bytes) (dec_le (number_from 0 bytes) most)
  where
    go : (b : Bool) → Dec (number_from 0 bytes ≤ most) → cond (b && leb (number_from 0 bytes) most) (Some (number_from 0 bytes)) None ≡ uncut most (cond b (Some (min (number_from 0 bytes) (most + 1))) None)
    go true (yes few) = rw (min-eq_left {n = number_from 0 bytes} {m = most + 1} (omega arith))
    go true (no many) =
        rw (min-eq_right {n = most + 1} {m = number_from 0 bytes} (omega arith), lt-leb (most + 1) most (omega arith), lt-leb (number_from 0 bytes) most (omega arith))
    go false d = refl

-- a number that is read is no more than the most that it may be
pub number_within : (bytes : List ℕ) (most n : ℕ) → Some n ≡ number_in bytes most → n ≤ most
unfolding number_in
number_within bytes most n e = go (is_numeral bytes && leb (number_from 0 bytes) most) refl e
  where
    go : (b : Bool) → (is_numeral bytes && leb (number_from 0 bytes) most) ≡ b → Some n ≡ cond b (Some (number_from 0 bytes)) None → n ≤ most
    go true t is =
        let same : n ≡ number_from 0 bytes = cc in
        omega (arith, leb-true (number_from 0 bytes) most (both_hold (is_numeral bytes) (leb (number_from 0 bytes) most) t).1)
    go false t is = absurd (let z : ◌≡◌ {A = ℕ} 0 1 = cc in omega arith)
