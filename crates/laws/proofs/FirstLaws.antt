-- The first element that fails a test, met by a loop that goes up: what is left of the list decides, one element at a time. Where every
-- element passes, every element of a part does; and after a list in which every element passes, what follows decides.
use Rattle.std.specs.Prelude.{Option, Some, None, MatchOption, unwrap_or}
use Prim.Native.Nat.{ℕ, zero, suc, ◌+◌, ◌≤◌, ◌<◌, min, suc-le-suc}
use mathlib.Core.Path.{◌≡◌, refl, sym, ap, ◌∙◌}
use mathlib.Core.Bool.{Bool, true, false, cond}
use mathlib.Core.List.{List, [], ◌∷◌, ◌++◌}
use native.Mathlib.Nat.{le_of_suc-le-suc, not-suc-le-zero, suc_inj}
use native.Mathlib.Omega.{arith}
use lib.ListN.{length, get_or, take, drop, length-append, length-take}
use lib.Dec.{eqb}
use lib.Seq.{drop-cons, get_or-take}
use borrow.Author.Tests.{eq-eqb, ne_eqb}
use Rattle.laws.specs.First.{first_not}

module _ {A : Type 0} (passes : A → Bool) where
  pub first_of_nil : first_not passes [] ≡ 0
  unfolding first_not
  first_of_nil = refl

  pub first_stops : (xs : List A) (i : ℕ) (d : A) → i < length xs → passes (get_or xs i d) ≡ false → first_not passes (drop i xs) ≡ 0
  unfolding first_not
  first_stops xs i d h e = rw (drop-cons xs i d h, e)

  pub first_goes : (xs : List A) (i : ℕ) (d : A) → i < length xs → passes (get_or xs i d) ≡ true → first_not passes (drop i xs) ≡ suc (first_not passes (drop (suc i) xs))
  unfolding first_not
  first_goes xs i d h e = rw (drop-cons xs i d h, e)

  pub first_within : (xs : List A) → first_not passes xs ≤ length xs
  unfolding first_not
  first_within [] = omega arith
  first_within (x ∷ xs) = go (passes x) (first_within xs)
    where
      go : (b : Bool) → first_not passes xs ≤ length xs → cond b (suc (first_not passes xs)) zero ≤ suc (length xs)
      go true h = omega arith
      go false h = omega arith

  -- every element passes
  pub all_pass : (xs : List A) → first_not passes xs ≡ length xs → (i : ℕ) (d : A) → i < length xs → passes (get_or xs i d) ≡ true
  unfolding first_not
  all_pass [] e i d h = absurd (not-suc-le-zero h)
  all_pass (x ∷ xs) e i d h = go (passes x) refl e i h (λ e' j. all_pass xs e' j d)
    where
      go : (b : Bool) → passes x ≡ b → cond b (suc (first_not passes xs)) zero ≡ suc (length xs) → (i : ℕ) → i < suc (length xs) → (first_not passes xs ≡ length xs → (j : ℕ) → j < length xs → passes (get_or xs j d) ≡ true) → passes (get_or (x ∷ xs) i d) ≡ true
      go true p e zero h rest = p
      go true p e (suc i) h rest = rest (suc_inj e) i (le_of_suc-le-suc h)
      go false p e i h rest = absurd (omega arith)

  pub pass_all : (xs : List A) (d : A) → ((i : ℕ) → i < length xs → passes (get_or xs i d) ≡ true) → first_not passes xs ≡ length xs
  unfolding first_not
  pass_all [] d p = refl
  pass_all (x ∷ xs) d p = rw (p 0 (omega arith)) (ap suc (pass_all xs d (λ i h. p (suc i) (suc-le-suc h))))

  pub pass_take : (n : ℕ) (xs : List A) (d : A) → first_not passes xs ≡ length xs → first_not passes (take n xs) ≡ length (take n xs)
  pass_take n xs d e =
      pass_all (take n xs) d
      (λ i h.
      let within : i < min n (length xs) = rw (length-take n xs) at h in
      rw (get_or-take n xs i d (omega arith)) (all_pass xs e i d (omega arith)))

  -- the first that fails does, and those before it pass
  pub first_fails : (xs : List A) (d : A) → first_not passes xs < length xs → passes (get_or xs (first_not passes xs) d) ≡ false
  unfolding first_not
  first_fails [] d h = absurd (not-suc-le-zero h)
  first_fails (x ∷ xs) d h = go (passes x) refl h (first_fails xs d)
    where
      go : (b : Bool) → passes x ≡ b → cond b (suc (first_not passes xs)) zero < suc (length xs) → (first_not passes xs < length xs → passes (get_or xs (first_not passes xs) d) ≡ false) → passes (get_or (x ∷ xs) (cond b (suc (first_not passes xs)) zero) d) ≡ false
      go true p h rest = rest (le_of_suc-le-suc h)
      go false p h rest = p

  pub first_unique : (xs : List A) (d : A) (k : ℕ) → k < length xs → passes (get_or xs k d) ≡ false → ((i : ℕ) → i < k → passes (get_or xs i d) ≡ true) → first_not passes xs ≡ k
  unfolding first_not
  first_unique [] d k h e p = absurd (not-suc-le-zero h)
  first_unique (x ∷ xs) d zero h e p = rw e
  first_unique (x ∷ xs) d (suc k) h e p =
      rw (p 0 (omega arith)) (ap suc (first_unique xs d k (le_of_suc-le-suc h) e (λ i below. p (suc i) (suc-le-suc below))))

  -- what a search along the list finds
  pub first_met : (xs : List A) (d : A) (r : Option ℕ) → MatchOption r ((k : ℕ) → k < length xs → passes (get_or xs k d) ≡ true) (λ i. (i < length xs) × ((k : ℕ) → k < i → passes (get_or xs k d) ≡ true) × (passes (get_or xs i d) ≡ false)) → unwrap_or r (length xs) ≡ first_not passes xs
  first_met xs d None all = sym (pass_all xs d all)
  first_met xs d (Some i) (within, before, fails) = sym (first_unique xs d i within fails before)

  pub first_found : (xs : List A) (d : A) (r : Option ℕ) (i : ℕ) → MatchOption r ((k : ℕ) → k < length xs → passes (get_or xs k d) ≡ true) (λ j. (j < length xs) × ((k : ℕ) → k < j → passes (get_or xs k d) ≡ true) × (passes (get_or xs j d) ≡ false)) → r ≡ Some i → (first_not passes xs ≡ i) × (i < length xs)
  first_found xs d None i all e = absurd (let z : ◌≡◌ {A = ℕ} 0 1 = cc in omega arith)
  first_found xs d (Some j) i (within, before, fails) e =
      let same : j ≡ i = cc in
      let met = first_unique xs d j within fails before in
      (met ∙ same, omega arith)

  -- and where it finds nothing
  pub none_found : (xs : List A) (d : A) (r : Option ℕ) → MatchOption r ((k : ℕ) → k < length xs → passes (get_or xs k d) ≡ true) (λ j. (j < length xs) × ((k : ℕ) → k < j → passes (get_or xs k d) ≡ true) × (passes (get_or xs j d) ≡ false)) → r ≡ None → first_not passes xs ≡ length xs
  none_found xs d None all e = pass_all xs d all
  none_found xs d (Some j) found e = absurd (let z : ◌≡◌ {A = ℕ} 0 1 = cc in omega arith)

  -- a test of all
  pub all_met : (xs : List A) (d : A) (r : Bool) → (r ≡ true → (k : ℕ) → k < length xs → passes (get_or xs k d) ≡ true) → (((k : ℕ) → k < length xs → passes (get_or xs k d) ≡ true) → r ≡ true) → r ≡ eqb (first_not passes xs) (length xs)
  all_met xs d true holds if = sym (eq-eqb (first_not passes xs) (length xs) (pass_all xs d (holds refl)))
  all_met xs d false holds if = sym (ne_eqb (first_not passes xs) (length xs) (λ (e : first_not passes xs ≡ length xs). let z : false ≡ true = if (λ k. all_pass xs e k d) in cc))

  pub pass_before : (xs : List A) (i : ℕ) (d : A) → i < first_not passes xs → passes (get_or xs i d) ≡ true
  unfolding first_not
  pass_before [] i d h = absurd (not-suc-le-zero h)
  pass_before (x ∷ xs) i d h = go (passes x) refl i h (λ j. pass_before xs j d)
    where
      go : (b : Bool) → passes x ≡ b → (i : ℕ) → i < cond b (suc (first_not passes xs)) zero → ((j : ℕ) → j < first_not passes xs → passes (get_or xs j d) ≡ true) → passes (get_or (x ∷ xs) i d) ≡ true
      go true p zero h rest = p
      go true p (suc i) h rest = rest i (le_of_suc-le-suc h)
      go false p i h rest = absurd (not-suc-le-zero h)

  -- of the front of a list, and of what is left after elements that pass
  pub first_of_take : (k : ℕ) (xs : List A) → first_not passes (take k xs) ≡ min k (first_not passes xs)
  unfolding first_not
  first_of_take zero xs = omega arith
  first_of_take (suc k) [] = omega arith
  first_of_take (suc k) (x ∷ xs) = go (passes x) (first_of_take k xs)
    where
      go : (b : Bool) → first_not passes (take k xs) ≡ min k (first_not passes xs) → cond b (suc (first_not passes (take k xs))) zero ≡ min (suc k) (cond b (suc (first_not passes xs)) zero)
      go true rest = omega arith
      go false rest = omega arith

  pub first_of_drop : (k : ℕ) (xs : List A) → k ≤ first_not passes xs → first_not passes xs ≡ k + first_not passes (drop k xs)
  unfolding first_not
  first_of_drop zero xs h = omega arith
  first_of_drop (suc k) [] h = absurd (omega arith)
  first_of_drop (suc k) (x ∷ xs) h = go (passes x) h (first_of_drop k xs)
    where
      go : (b : Bool) → suc k ≤ cond b (suc (first_not passes xs)) zero → (k ≤ first_not passes xs → first_not passes xs ≡ k + first_not passes (drop k xs)) → cond b (suc (first_not passes xs)) zero ≡ suc k + first_not passes (drop k xs)
      go true h rest = omega (arith, rest (le_of_suc-le-suc h))
      go false h rest = absurd (omega arith)

  -- after a list in which every element passes
  pub first_of_append : (xs ys : List A) → first_not passes xs ≡ length xs → first_not passes (xs ++ ys) ≡ length xs + first_not passes ys
  unfolding first_not
  first_of_append [] ys e = omega arith
  first_of_append (x ∷ xs) ys e = go (passes x) e (first_of_append xs ys)
    where
      go : (b : Bool) → cond b (suc (first_not passes xs)) zero ≡ suc (length xs) → (first_not passes xs ≡ length xs → first_not passes (xs ++ ys) ≡ length xs + first_not passes ys) → cond b (suc (first_not passes (xs ++ ys))) zero ≡ suc (length xs) + first_not passes ys
      go true e rest = omega (arith, rest (suc_inj e))
      go false e rest = absurd (omega arith)

  pub pass_append : (xs ys : List A) → first_not passes xs ≡ length xs → first_not passes ys ≡ length ys → first_not passes (xs ++ ys) ≡ length (xs ++ ys)
  pass_append xs ys e e' = omega (arith, first_of_append xs ys e, e', length-append xs ys)

  pub first_at_seam : (xs : List A) (y : A) (ys : List A) → first_not passes xs ≡ length xs → passes y ≡ false → first_not passes (xs ++ y ∷ ys) ≡ length xs
  first_at_seam xs y ys e fails = omega (arith, first_of_append xs (y ∷ ys) e, first_stops (y ∷ ys) 0 y (omega arith) fails)

-- where each element that passes one test passes another, lists do
pub pass_also : {A : Type 0} (p q : A → Bool) → ((x : A) → p x ≡ true → q x ≡ true) → (xs : List A) → first_not p xs ≡ length xs → first_not q xs ≡ length xs
pass_also p q also [] e = first_of_nil q
pass_also p q also (x ∷ xs) e = pass_all q (x ∷ xs) x (λ i h. also _ (all_pass p (x ∷ xs) e i x h))
