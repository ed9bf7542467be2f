-- The laws of the check digit, on the values of digits: the whole number weighs 1, 3, 1, 3 from the right, and it is right exactly if
-- that sum is a multiple of 10. Neither weight has a factor in common with 10, and two neighbours' weights differ by 2.
use Prim.Native.Nat.{ℕ, zero, suc, ◌+◌, ◌-◌, ◌*◌, ◌/◌, ◌%◌, ◌<◌}
use mathlib.Core.Path.{◌≡◌, refl, sym, ap, ◌∙◌}
use mathlib.Core.Bool.{Bool, true, false, cond}
use mathlib.Core.Logic.Iff
use mathlib.Core.Logic.{◌⊎◌, inl, inr, ⊎_elim, ◌↔◌}
use mathlib.Core.List.{List, [], ◌∷◌, ◌++◌}
use native.Mathlib.Nat.{le_refl, add_comm, one-mul}
use native.Mathlib.Omega.{arith}
use lib.ListN.{length, get_or, set, take}
use lib.Seq.{take-suc, take-length}
use lib.Dec.{eqb, leb}
use borrow.Author.Tests.{leb-true, leb-false, eqb-true, eq-eqb}
use Rattle.laws.specs.Weighed.{weighed}
use Rattle.laws.specs.Exchanged.{exchanged}
use Rattle.laws.proofs.Remainders.{same_below, same_if_balanced, same_without_factor, same_if_exchanged}
use Rattle.laws.proofs.WeighedLaws.{weighed_of_nil, weighed_last, weighed_set, weighed_exchanged}
use Rattle.digits.specs.Check.{weight_at, check_of, is_right, FiveApart}
use Rattle.digits.proofs.Weights.{weight_of_even, weight_turns}

-- the weight of a digit that has k digits to its right, the check digit among them
abbrev weight_in : ℕ → ℕ
weight_in zero = 1
weight_in (suc k) = weight_at k

-- of two neighbours the one weighs 3 and the other 1
abbrev ThreeAndOne : ℕ → Type 0
ThreeAndOne k = ((weight_in (suc k) ≡ 3) × (weight_in k ≡ 1)) ⊎ ((weight_in (suc k) ≡ 1) × (weight_in k ≡ 3))

three_or_one : (k : ℕ) → (weight_at k ≡ 3) ⊎ (weight_at k ≡ 1)
unfolding weight_at
three_or_one k = go (eqb (k % 2) 0)
  where
    go : (even : Bool) → (◌≡◌ {A = ℕ} (cond even 3 1) 3) ⊎ (◌≡◌ {A = ℕ} (cond even 3 1) 1)
    go true = inl refl
    go false = inr refl

three_and_one : (k : ℕ) → ThreeAndOne k
three_and_one zero = inl (weight_of_even 0 refl, refl)
three_and_one (suc k) =
    ⊎_elim (λ (e : weight_at k ≡ 3). inr (omega (arith, weight_turns k), e)) (λ (e : weight_at k ≡ 1). inl (omega (arith, weight_turns k), e)) (three_or_one k)

-- 7 undoes the weight 3: their product leaves 1
undone : (k : ℕ) → (v : ℕ) × ((v * weight_in k) % 10 ≡ 1)
undone k = go (three_and_one k)
  where
    go : ThreeAndOne k → (v : ℕ) × ((v * weight_in k) % 10 ≡ 1)
    go (inl w) = (1, rw w.1)
    go (inr w) = (7, rw w.1)

-- the sum that is tested is that of the whole number
whole_sum : (ds : List ℕ) → is_right ds ≡ eqb (weighed weight_in ds % 10) 0
unfolding is_right
whole_sum [] = rw (weighed_of_nil weight_at, weighed_of_nil weight_in)
whole_sum (d ∷ ds) =
    let n = length ds in
    let before = take n (d ∷ ds) in
    let last = get_or (d ∷ ds) n 0 in
    let parts : d ∷ ds ≡ before ++ (last ∷ []) = sym (take-length (d ∷ ds)) ∙ take-suc (d ∷ ds) n 0 (le_refl (suc n)) in
    let sum : weighed weight_in (d ∷ ds) ≡ weighed weight_at before + 1 * last = ap (weighed weight_in) parts ∙ weighed_last weight_in before last in
    let place : suc n - 1 ≡ n = omega arith in
    rw (place, sum, one-mul)

last_sum : (ds : List ℕ) (c : ℕ) → is_right (ds ++ (c ∷ [])) ≡ eqb ((weighed weight_at ds + c) % 10) 0
last_sum ds c = whole_sum (ds ++ (c ∷ [])) ∙ rw (weighed_last weight_in ds c, one-mul)

-- The digit computed makes the number right, and no other does.

pub check_below_ten : (ds : List ℕ) → check_of ds < 10
unfolding check_of
check_below_ten ds = omega arith

pub computed_is_right : (ds : List ℕ) → is_right (ds ++ (check_of ds ∷ [])) ≡ true
unfolding check_of
computed_is_right ds = last_sum ds (check_of ds) ∙ eq-eqb ((weighed weight_at ds + check_of ds) % 10) 0 (omega arith)

pub no_other_is_right : (ds : List ℕ) (c : ℕ) → c < 10 → is_right (ds ++ (c ∷ [])) ≡ true → c ≡ check_of ds
unfolding check_of
no_other_is_right ds c h right =
    let sum : (weighed weight_at ds + c) % 10 ≡ 0 = eqb-true _ 0 (sym (last_sum ds c) ∙ right) in
    omega arith

-- A right number with one digit changed is wrong.

-- what is taken from the sum and what is put in its place decide whether a right number stays right
right_if_same : (ds changed : List ℕ) (taken put : ℕ) → is_right ds ≡ true → weighed weight_in changed + taken ≡ weighed weight_in ds + put
    → (is_right changed ≡ true) ↔ (taken % 10 ≡ put % 10)
right_if_same ds changed taken put right e = (
  λ (still : is_right changed ≡ true). same.0 (multiple changed still ∙ sym (multiple ds right)),
  λ (terms : taken % 10 ≡ put % 10). whole_sum changed ∙ eq-eqb _ 0 (same.1 terms ∙ multiple ds right),
)
  where
    multiple : (ns : List ℕ) → is_right ns ≡ true → weighed weight_in ns % 10 ≡ 0
    multiple ns h = eqb-true _ 0 (sym (whole_sum ns) ∙ h)

    same : (weighed weight_in changed % 10 ≡ weighed weight_in ds % 10) ↔ (taken % 10 ≡ put % 10)
    same = same_if_balanced 10 (weighed weight_in changed) (weighed weight_in ds) taken put e

pub change_is_seen : (ds : List ℕ) (i x : ℕ) → is_right ds ≡ true → i < length ds → get_or ds i 0 < 10 → x < 10 → (x ≡ get_or ds i 0 → ⊥) → is_right (set ds i x) ≡ true → ⊥
change_is_seen ds i x right h old new other still =
    let k = length ds - suc i in
    let d = get_or ds i 0 in
    let inverse = undone k in
    let terms = (right_if_same ds (set ds i x) (weight_in k * d) (weight_in k * x) right (weighed_set weight_in ds i x 0 h)).0 still in
    other (sym (same_below 10 d x old new (same_without_factor 10 inverse.0 (weight_in k) d x inverse.1 terms)))

-- A right number with two unequal neighbours exchanged stays right exactly where they differ by 5.

-- the exchange changes the sum by twice the difference
twice : (k a b : ℕ) → ((weight_in (suc k) * a + weight_in k * b) % 10 ≡ (weight_in (suc k) * b + weight_in k * a) % 10) ↔ ((2 * a) % 10 ≡ (2 * b) % 10)
twice k a b = go (three_and_one k)
  where
    go : ThreeAndOne k → ((weight_in (suc k) * a + weight_in k * b) % 10 ≡ (weight_in (suc k) * b + weight_in k * a) % 10) ↔ ((2 * a) % 10 ≡ (2 * b) % 10)
    go (inl w) = rw (w.0, w.1) (same_if_exchanged 10 1 2 a b)
    go (inr w) =
        rw (w.0, w.1, add_comm (1 * a) (3 * b), add_comm (1 * b) (3 * a)) (Iff.trans (same_if_exchanged 10 1 2 b a) (sym, sym))

five_more : (low high : ℕ) → low < high → high < 10 → (2 * low) % 10 ≡ (2 * high) % 10 → high ≡ low + 5
five_more low high more h e =
    let tens : 2 * low / 10 < 2 * high / 10 = omega arith in
    let most : 2 * high / 10 < 2 = omega arith in
    omega arith

twice_same : (a b : ℕ) → a < 10 → b < 10 → (a ≡ b → ⊥) → ((2 * a) % 10 ≡ (2 * b) % 10) ↔ FiveApart a b
twice_same a b ha hb other = (apart (leb a b) refl, ⊎_elim (λ (e : a ≡ b + 5). omega arith) (λ (e : b ≡ a + 5). omega arith))
  where
    apart : (t : Bool) → leb a b ≡ t → (2 * a) % 10 ≡ (2 * b) % 10 → FiveApart a b
    apart true t e = inr (five_more a b (omega (arith, leb-true a b t)) hb e)
    apart false t e = inl (five_more b a (leb-false a b t) ha (sym e))

pub exchange_unseen_exactly : (ds : List ℕ) (i : ℕ) → is_right ds ≡ true → suc i < length ds → get_or ds i 0 < 10 → get_or ds (suc i) 0 < 10 → (get_or ds i 0 ≡ get_or ds (suc i) 0 → ⊥)
    → (is_right (exchanged i ds) ≡ true) ↔ FiveApart (get_or ds i 0) (get_or ds (suc i) 0)
exchange_unseen_exactly ds i right h ha hb other =
    let a = get_or ds i 0 in
    let b = get_or ds (suc i) 0 in
    let k = length ds - suc (suc i) in
    let next : length ds - suc i ≡ suc k = omega arith in
    let sums = rw next at (weighed_exchanged weight_in ds i 0 h) in
    Iff.trans (right_if_same ds (exchanged i ds) (weight_in (suc k) * a + weight_in k * b) (weight_in (suc k) * b + weight_in k * a) right sums)
    (Iff.trans (twice k a b) (twice_same a b ha hb other))
