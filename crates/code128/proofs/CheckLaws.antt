-- How the check moves, which demand 3 rests on: 103 is prime, so a place of 1 to 102 can be undone, and a check that stays the same
-- shows that nothing was replaced and that no two unequal neighbours were exchanged.
use Prim.Native.Nat.{ℕ, zero, suc, ◌+◌, ◌*◌, ◌^◌, ◌%◌, ◌≤◌, ◌<◌}
use mathlib.Core.Path.{◌≡◌, sym, ap, ◌∙◌}
use mathlib.Core.List.{List, [], ◌∷◌, ◌++◌}
use native.Mathlib.Nat.{mod-eq_of_lt}
use native.Mathlib.Omega.{arith}
use lib.ListN.{length, get_or, set}
use lib.Dec.{eqb, eqb→eq}
use Rattle.laws.specs.Exchanged.{exchanged}
use Rattle.laws.proofs.Remainders.{same_and_more, same_below, same_without, same_if_balanced, same_without_factor, same_if_exchanged}
use Rattle.laws.proofs.Tables.{at_entry}
use Rattle.laws.specs.Run.{run}
use Rattle.code128.specs.Check.{placed, check_of}
use Rattle.code128.proofs.PlacedLaws.{placed_last, placed_set, placed_exchanged}

pub check_below : (start : ℕ) (values : List ℕ) → check_of start values < 103
unfolding check_of
check_below start values = omega arith

-- the places 1 to 102, each undone by its 101st power
undone : (place : ℕ) → 1 ≤ place → place < 103 → (place ^ 101 * place) % 103 ≡ 1
undone zero h l = absurd (omega arith)
undone (suc k) h l = eqb→eq _ 1 (at_entry (λ (k place : ℕ). eqb ((suc k ^ 101 * suc k) % 103) 1) 0 (run 1 102) tt k (omega arith))

-- a place of 1 to 102 is no factor that hides a difference
pub place_shows : (place a b : ℕ) → 1 ≤ place → place < 103 → a < 103 → b < 103 → (place * a) % 103 ≡ (place * b) % 103 → a ≡ b
place_shows place a b h l ha hb e = same_below 103 a b ha hb (same_without_factor 103 (place ^ 101) place a b (undone place h l) e)

-- one value replaced by another
pub check_of_replaced : (start : ℕ) (values : List ℕ) (i x : ℕ) → i < length values → i < 102 → get_or values i 0 < 103 → x < 103 → check_of start (set values i x) ≡ check_of start values → get_or values i 0 ≡ x
unfolding check_of
check_of_replaced start values i x h l hv hx e =
    let balanced : (start + placed 1 (set values i x)) + (1 + i) * get_or values i 0 ≡ (start + placed 1 values) + (1 + i) * x = omega (arith, placed_set 1 values i x 0 h) in
    place_shows (1 + i) (get_or values i 0) x (omega arith) (omega arith) hv hx ((same_if_balanced 103 _ _ _ _ balanced).0 e)

-- two neighbours exchanged
pub check_of_exchanged : (start : ℕ) (values : List ℕ) (i : ℕ) → suc i < length values → get_or values i 0 < 103 → get_or values (suc i) 0 < 103 → check_of start (exchanged i values) ≡ check_of start values → get_or values i 0 ≡ get_or values (suc i) 0
unfolding check_of
check_of_exchanged start values i h ha hb e =
    let a = get_or values i 0 in
    let b = get_or values (suc i) 0 in
    let balanced : (start + placed 1 (exchanged i values)) + ((1 + i + 1) * b + (1 + i) * a) ≡ (start + placed 1 values) + ((1 + i + 1) * a + (1 + i) * b) = omega (arith, placed_exchanged 1 values i 0 h) in
    let terms : ((1 + i + 1) * b + (1 + i) * a) % 103 ≡ ((1 + i + 1) * a + (1 + i) * b) % 103 = (same_if_balanced 103 _ _ _ _ balanced).0 e in
    sym (place_shows 1 b a (omega arith) (omega arith) hb ha ((same_if_exchanged 103 (1 + i) 1 b a).0 terms))

-- another start
pub check_of_other_start : (start other : ℕ) (values : List ℕ) → 103 ≤ start → start ≤ 105 → 103 ≤ other → other ≤ 105 → check_of start values ≡ check_of other values → start ≡ other
unfolding check_of
check_of_other_start start other values hs ls ho lo e =
    let same : start % 103 ≡ other % 103 = same_without 103 start other (placed 1 values) e in
    omega arith

-- the check character exchanged with the value before it: where its own place would be below 103, that shows too
pub check_of_exchanged_check : (start : ℕ) (values : List ℕ) (last check : ℕ) → length values ≤ 100 → last < 103 → check_of start (values ++ (last ∷ [])) ≡ check → check_of start (values ++ (check ∷ [])) ≡ last → check ≡ last
unfolding check_of
check_of_exchanged_check start values last check short small e f =
    let place = 1 + length values in
    let front = start + placed 1 values in
    let below : check < 103 = omega arith in
    let first : front + place * last ≡ start + placed 1 (values ++ (last ∷ [])) = omega (arith, placed_last 1 values last) in
    let second : front + place * check ≡ start + placed 1 (values ++ (check ∷ [])) = omega (arith, placed_last 1 values check) in
    let gives-check : (front + place * last) % 103 ≡ check % 103 = rw first (e ∙ sym (mod-eq_of_lt below)) in
    let gives-last : (front + place * check) % 103 ≡ last % 103 = rw second (f ∙ sym (mod-eq_of_lt small)) in
    let sums : (front + place * last) + place * check ≡ (front + place * check) + place * last = omega arith in
    let one : check + place * check ≡ (place + 1) * check = omega arith in
    let other : last + place * last ≡ (place + 1) * last = omega arith in
    place_shows (place + 1) check last (omega arith) (omega arith) below small
    (ap (λ (n : ℕ). n % 103) (sym one)
    ∙ sym (same_and_more 103 _ _ (place * check) gives-check)
    ∙ ap (λ (n : ℕ). n % 103) sums
    ∙ same_and_more 103 _ _ (place * last) gives-last
    ∙ ap (λ (n : ℕ). n % 103) other)
