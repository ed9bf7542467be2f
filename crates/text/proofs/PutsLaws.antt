-- Text is put together from parts: each part is written after the ones before it, and what stands after the last one is as it was.
use Prim.Native.Nat.{ℕ, suc, ◌+◌, ◌-◌, ◌≤◌, ◌<◌, min}
use mathlib.Core.Path.{◌≡◌, refl, sym, ap, ◌∙◌}
use mathlib.Core.List.{List, [], ◌∷◌, ◌++◌, append_assoc, append-nil}
use native.Mathlib.Nat.{min-eq_left, min-eq_right}
use native.Mathlib.Decide.{dec_le}
use native.Mathlib.Omega.{arith}
use lib.ListN.{length, get_or, set, take, drop, length-append, length-take, length-drop, drop_of_length-le}
use lib.Seq.{take-length, take_all, take-append_seam, drop-append_seam, drop-drop, drop-cons, append_snoc, set-append_seam}
use borrow.Rule.Slice.PartMut.{mid_of, put_mid}
use Rattle.text.specs.Puts.{Puts}

pub puts_none : (before : List ℕ) → Puts [] before 0 before
puts_none before = record { count = refl; lent = refl }

-- text that comes to the same
pub puts_same : (xs ys before : List ℕ) (r : ℕ) (after : List ℕ) → xs ≡ ys → Puts ys before r after → Puts xs before r after
puts_same xs ys before r after e p = rw e p

-- one byte more
pub puts_more : (bytes before : List ℕ) (r : ℕ) (after : List ℕ) (b : ℕ) → r < length before → Puts bytes before r after → Puts (bytes ++ (b ∷ [])) before (r + 1) (set after r b)
puts_more bytes before r after b h p =
    let whole : length (bytes ++ (b ∷ [])) ≡ suc (length bytes) = simp length-append (omega arith) in
    record {
      count = omega (arith, p.count, whole);
      lent =
          rw (p.lent, p.count, whole, append_snoc, drop-cons before (length bytes) 0 (omega (arith, p.count)))
          (set-append_seam bytes (get_or before (length bytes) 0) (drop (suc (length bytes)) before) b);
    }

-- what was written stands at the front
pub puts_front : (bytes before : List ℕ) (r : ℕ) (after : List ℕ) → Puts bytes before r after → take r after ≡ bytes
puts_front bytes before r after p = rw (p.lent, p.count) (take-append_seam bytes (drop (length bytes) before))

-- a part after the others, written to what is left
pub puts_then : (xs ys before : List ℕ) (r : ℕ) (middle : List ℕ) (s : ℕ) (rest : List ℕ) → Puts xs before r middle → Puts ys (mid_of r (length middle - r) middle) s rest → Puts (xs ++ ys) before (r + s) (put_mid r (length middle - r) middle rest)
puts_then xs ys before r middle s rest p q =
    let front : take r middle ≡ xs = puts_front xs before r middle p in
    let back : drop r middle ≡ drop (length xs) before = rw (p.lent, p.count) (drop-append_seam xs (drop (length xs) before)) in
    let within : length (drop r middle) ≤ length middle - r = rw length-drop (omega arith) in
    let part : mid_of r (length middle - r) middle ≡ drop (length xs) before = take_all (length middle - r) (drop r middle) within ∙ back in
    record {
      count = omega (arith, p.count, q.count, length-append xs ys);
      lent =
          rw (front, drop_of_length-le (drop r middle) {i = length middle - r} within, q.lent, part, append-nil)
          (rw (drop-drop, length-append, append_assoc) refl);
    }

-- what is written fits in what was lent
pub puts_within : (bytes before : List ℕ) (r : ℕ) (after : List ℕ) → Puts bytes before r after → length after ≡ length before → r ≤ length before
puts_within bytes before r after p kept =
    omega (arith, p.count, simp length-append at (ap length p.lent))

-- a loop that has written all of a list
pub puts_whole : (bytes before : List ℕ) (i : ℕ) (after : List ℕ) → i ≡ length bytes → after ≡ take i bytes ++ drop i before → Puts bytes before i after
puts_whole bytes before i after e is = record { count = e; lent = is ∙ rw (e, take-length) refl }

take_min : (n : ℕ) (xs : List ℕ) → take (min n (length xs)) xs ≡ take n xs
take_min n xs = go (dec_le n (length xs))
  where
    go : Dec (n ≤ length xs) → take (min n (length xs)) xs ≡ take n xs
    go (yes few) = rw (min-eq_left few)
    go (no many) = rw (min-eq_right {n = length xs} {m = n} (omega arith), take-length) (sym (take_all n xs (omega arith)))

-- a loop that has written as much of a list as fits
pub puts_fitting : (bytes before : List ℕ) (i : ℕ) (after : List ℕ) → i ≡ min (length before) (length bytes) → after ≡ take i bytes ++ drop i before → Puts (take (length before) bytes) before i after
puts_fitting bytes before i after e is =
    let part : take i bytes ≡ take (length before) bytes = rw e (take_min (length before) bytes) in
    let count : i ≡ length (take (length before) bytes) = rw length-take e in
    record { count = count; lent = is ∙ rw (part, ← count) refl }
