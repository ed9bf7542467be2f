-- A symbol's characters up to its check character: another such list can't differ from it in one place alone, nor by two unequal neighbours
-- after the start that have changed places, since the check would have moved.
use Prim.Native.Nat.{ℕ, zero, suc, ◌+◌, ◌≤◌, ◌<◌}
use mathlib.Core.Path.{◌≡◌, refl, sym, ap, ap₂, ◌∙◌, subst}
use mathlib.Core.Logic.{◌≢◌}
use mathlib.Core.List.{List, [], ◌∷◌, ◌++◌}
use native.Mathlib.Decide.{dec_lt, ℕ_discrete}
use native.Mathlib.Omega.{arith}
use lib.ListN.{length, get_or, set, take, length-append, length-set, get_or-append}
use lib.Seq.{ext_get_or, get_or_at, get_or-append_seam, get_or-set_same, get_or-set_other, set-get_or, take_all, take-suc, length-take-le}
use Rattle.laws.specs.Below.{Below}
use Rattle.laws.proofs.BelowLaws.{below_more, below_last, below_greater}
use Rattle.laws.specs.Exchanged.{exchanged}
use Rattle.laws.proofs.ExchangedLaws.{exchanged_append}
use Rattle.code128.specs.Check.{check_of}
use Rattle.code128.proofs.CheckLaws.{check_below, check_of_replaced, check_of_exchanged, check_of_other_start, check_of_exchanged_check}
use Rattle.gs1_128.specs.Symbol.{with_check}

-- a start, up to 100 values that are allowed after it, and their check
pub record Checked (characters : List ℕ) : Type 0 where
  pub start : ℕ
  pub values : List ℕ
  pub least_start : 103 ≤ start
  pub most_start : start ≤ 105
  pub most : length values ≤ 100
  pub allowed : Below 103 values
  pub whole : characters ≡ start ∷ with_check start values

pub below_checked : (start : ℕ) (values : List ℕ) → start < 106 → Below 103 values → Below 106 (start ∷ with_check start values)
below_checked start values h below =
    below_more 106 start (with_check start values) h
    (below_greater 103 106 (with_check start values) (omega arith) (below_last 103 values (check_of start values) below (check_below start values)))

pub checked_below : {characters : List ℕ} → Checked characters → Below 106 characters
checked_below a = subst (Below 106) (sym a.whole) (below_checked a.start a.values (omega (arith, a.most_start)) a.allowed)

last_same : (xs ys : List ℕ) (a b : ℕ) → xs ++ (a ∷ []) ≡ ys ++ (b ∷ []) → (xs ≡ ys) × (a ≡ b)
last_same [] [] a b e = (refl, cc)
last_same [] (y ∷ ys) a b e = absurd (omega (arith, ap length e, length-append ys (b ∷ [])))
last_same (x ∷ xs) [] a b e = absurd (omega (arith, ap length e, length-append xs (a ∷ [])))
last_same (x ∷ xs) (y ∷ ys) a b e =
    let rest = last_same xs ys a b (cc) in
    (ap₂ (λ (z : ℕ) (zs : List ℕ). z ∷ zs) (cc) rest.0, rest.1)

-- two lists agree in every place but k
abbrev pub AgreeBut : ℕ → List ℕ → List ℕ → Type 0
AgreeBut k xs ys = (j : ℕ) → j < length xs → j ≢ k → get_or xs j 0 ≡ get_or ys j 0

-- then one is the other with one store
stored : (xs ys : List ℕ) (k : ℕ) → length xs ≡ length ys → AgreeBut k xs ys → ys ≡ set xs k (get_or ys k 0)
stored xs ys k e same = ext_get_or 0 ys (set xs k (get_or ys k 0)) (sym e ∙ sym (length-set xs k (get_or ys k 0))) (λ j h. go j h (ℕ_discrete j k))
  where
    go : (j : ℕ) → j < length ys → Dec (j ≡ k) → get_or ys j 0 ≡ get_or (set xs k (get_or ys k 0)) j 0
    go j h (yes is) = rw is (sym (get_or-set_same xs k (get_or ys k 0) 0 (omega arith)))
    go j h (no other) = sym (same j (omega arith) other) ∙ sym (get_or-set_other xs k j (get_or ys k 0) 0 other)

-- of two lists of one length
module _ {xs ys : List ℕ} (a : Checked xs) (b : Checked ys) (e : length xs ≡ length ys) where
  abbrev check : ℕ
  check = check_of a.start a.values

  abbrev check' : ℕ
  check' = check_of b.start b.values

  abbrev after : List ℕ
  after = with_check a.start a.values

  abbrev after' : List ℕ
  after' = with_check b.start b.values

  counts : (length after ≡ length a.values + 1) × (length after ≡ length after') × (length a.values ≡ length b.values)
  counts = omega (arith, ap length a.whole, ap length b.whole, length-append a.values (check ∷ []), length-append b.values (check' ∷ []))

  -- all but the starts agree
  start_apart : after ≡ after' → a.start ≡ b.start
  start_apart same =
      let both = last_same a.values b.values check check' same in
      check_of_other_start a.start b.start a.values a.least_start a.most_start b.least_start b.most_start (both.1 ∙ ap (check_of b.start) (sym both.0))

  -- all but the values at k, or the checks, agree
  values_apart : (k : ℕ) → a.start ≡ b.start → AgreeBut k after after' → a.values ≡ b.values
  values_apart k starts same = go (dec_lt k (length a.values))
    where
      at : AgreeBut k a.values b.values
      at j h other =
          sym (get_or-append a.values (check ∷ []) 0 j h)
          ∙ same j (omega (arith, counts)) other
          ∙ get_or-append b.values (check' ∷ []) 0 j (omega (arith, counts))

      go : Dec (k < length a.values) → a.values ≡ b.values
      go (no past) = ext_get_or 0 a.values b.values counts.2 (λ j h. at j h (omega arith))
      go (yes h) =
          let x = get_or b.values k 0 in
          let store : b.values ≡ set a.values k x = stored a.values b.values k counts.2 at in
          let checks : check ≡ check' =
          sym (get_or-append_seam a.values check [] 0)
          ∙ same (length a.values) (omega (arith, counts)) (omega arith)
          ∙ get_or_at b.values check' [] 0 (length a.values) (sym counts.2) in
          let replaced : check_of a.start (set a.values k x) ≡ check = ap₂ check_of starts (sym store) ∙ sym checks in
          let equal : get_or a.values k 0 ≡ x =
          check_of_replaced a.start a.values k x h (omega (arith, a.most)) (a.allowed k h) (b.allowed k (omega (arith, counts))) replaced in
          sym (store ∙ ap (set a.values k) (sym equal) ∙ set-get_or a.values k 0)

  parts_same : (k : ℕ) → AgreeBut k (a.start ∷ after) (b.start ∷ after') → (a.start ≡ b.start) × (a.values ≡ b.values)
  parts_same zero same =
      let rest : after ≡ after' = ext_get_or 0 after after' counts.1 (λ j h. same (suc j) (omega arith) (omega arith)) in
      (start_apart rest, (last_same a.values b.values check check' rest).0)
  parts_same (suc k) same =
      let starts : a.start ≡ b.start = same 0 (omega arith) (omega arith) in
      (starts, values_apart k starts (λ j h other. same (suc j) (omega arith) (omega arith)))

  -- where they differ in one place at most they are equal
  pub one_place : (k : ℕ) → AgreeBut k xs ys → xs ≡ ys
  one_place k same =
      let both = parts_same k (λ j h other. ap (at j) (sym a.whole) ∙ same j (omega (arith, ap length a.whole)) other ∙ ap (at j) b.whole) in
      a.whole ∙ ap₂ (λ (start : ℕ) (values : List ℕ). start ∷ with_check start values) both.0 both.1 ∙ sym b.whole
    where
      at : ℕ → List ℕ → ℕ
      at j zs = get_or zs j 0

-- .. or its last two
exchanged_last : (xs : List ℕ) (a b j : ℕ) → length xs ≡ j → exchanged j ((xs ++ (a ∷ [])) ++ (b ∷ [])) ≡ (xs ++ (b ∷ [])) ++ (a ∷ [])
exchanged_last [] a b zero e = refl
exchanged_last [] a b (suc j) e = absurd (omega arith)
exchanged_last (x ∷ xs) a b zero e = absurd (omega arith)
exchanged_last (x ∷ xs) a b (suc j) e = ap (λ (rest : List ℕ). x ∷ rest) (exchanged_last xs a b j (omega arith))

-- the elements at j and j + 1 are equal
abbrev Twins : ℕ → List ℕ → Type 0
Twins j xs = get_or xs j 0 ≡ get_or xs (suc j) 0

module _ (start : ℕ) (values : List ℕ) (below : Below 103 values) (most : length values ≤ 100) (j : ℕ) (values' : List ℕ) where
  -- neither of the two is the check character
  before_check : suc j < length values → exchanged j (with_check start values) ≡ with_check start values' → Twins j (with_check start values)
  before_check h same =
      let check = check_of start values in
      let both = last_same (exchanged j values) values' check (check_of start values') (sym (exchanged_append j values (check ∷ []) h) ∙ same) in
      let still : check_of start (exchanged j values) ≡ check = ap (check_of start) both.0 ∙ sym both.1 in
      get_or-append values (check ∷ []) 0 j (omega arith)
      ∙ check_of_exchanged start values j h (below j (omega arith)) (below (suc j) h) still
      ∙ sym (get_or-append values (check ∷ []) 0 (suc j) h)

  -- the second is
  with_check_lem : suc j ≡ length values → exchanged j (with_check start values) ≡ with_check start values' → Twins j (with_check start values)
  with_check_lem e same =
      let check = check_of start values in
      let front = take j values in
      let last = get_or values j 0 in
      let size : length front ≡ j = length-take-le j values (omega arith) in
      let parts : front ++ (last ∷ []) ≡ values = sym (take-suc values j 0 (omega arith)) ∙ take_all (suc j) values (omega arith) in
      let turned : exchanged j (with_check start values) ≡ (front ++ (check ∷ [])) ++ (last ∷ []) =
      ap (λ (vs : List ℕ). exchanged j (vs ++ (check ∷ []))) (sym parts) ∙ exchanged_last front last check j size in
      let both = last_same (front ++ (check ∷ [])) values' last (check_of start values') (sym turned ∙ same) in
      let equal : check ≡ last = check_of_exchanged_check start front last check (omega arith) (below j (omega arith)) (ap (check_of start) parts) (ap (check_of start) both.0 ∙ sym both.1) in
      get_or-append values (check ∷ []) 0 j (omega arith) ∙ sym equal ∙ sym (get_or_at values check [] 0 (suc j) (sym e))

  exchange_apart : suc j < length (with_check start values) → exchanged j (with_check start values) ≡ with_check start values' → Twins j (with_check start values)
  exchange_apart h same = go (dec_lt (suc j) (length values))
    where
      go : Dec (suc j < length values) → Twins j (with_check start values)
      go (yes l) = before_check l same
      go (no past) = with_check_lem (omega (arith, length-append values (check_of start values ∷ []))) same

-- neighbours after the start that have changed places are equal
pub one_exchange : {xs ys : List ℕ} → Checked xs → Checked ys → (k : ℕ) → 1 ≤ k → suc k < length xs → ys ≡ exchanged k xs → get_or xs k 0 ≡ get_or xs (suc k) 0
one_exchange a b zero least h e = absurd (omega arith)
one_exchange {xs} {ys} a b (suc j) least h e =
    let lists : a.start ∷ exchanged j (with_check a.start a.values) ≡ b.start ∷ with_check b.start b.values = ap (exchanged (suc j)) (sym a.whole) ∙ sym e ∙ b.whole in
    let starts : b.start ≡ a.start = cc in
    let rests : exchanged j (with_check a.start a.values) ≡ with_check b.start b.values = cc in
    let same = rests ∙ ap (λ (s : ℕ). with_check s b.values) starts in
    ap (λ (zs : List ℕ). get_or zs (suc j) 0) a.whole
    ∙ exchange_apart a.start a.values a.allowed a.most j b.values (omega (arith, ap length a.whole)) same
    ∙ ap (λ (zs : List ℕ). get_or zs (suc (suc j)) 0) (sym a.whole)
