-- Among the shortest spellings that use only sets B and C the best comes first: by induction on the spelling, its first value put before
-- what is best after it is no better than the best, and a common first value keeps the order of what follows.
use Prim.Native.Nat.{ℕ, ◌+◌, ◌/◌, ◌%◌, ◌≤◌, ◌<◌}
use mathlib.Core.Path.{◌≡◌, refl, sym, subst}
use mathlib.Core.Bool.{Bool, true, false}
use mathlib.Core.List.{List, [], ◌∷◌}
use mathlib.Core.Logic.{◌⊎◌, inl, inr}
use native.Mathlib.Omega.{arith}
use lib.ListN.{length}
use lib.Dec.{eqb}
use borrow.Author.Tests.{ne_eqb, eqb-true, eqb-false}
use Rattle.code_sets.specs.declared.sets.Set.{Set}
use Rattle.code_sets.specs.declared.sets.Set.TheVariants.{A as set_a, B as set_b, C as set_c}
use Rattle.code_sets.specs.declared.sets.Meaning.TheVariants.{Byte as byte, Pair as pair, Change as change, Separator as separator}
use Rattle.code_sets.specs.Spelling.{Spells, ended, a_byte, a_pair, a_shift, a_change, a_separator, OnlyBC, SpellsBC}
use Rattle.code_sets.specs.Reading.{start_set}
use Rattle.spelling.specs.Best.{comes_first, Precedes, better, value_b, bests, best_spelling, from_b, from_c}
use Rattle.spelling.proofs.OrderLaws.{first_means, better_cases, better_refl, better_trans, better_same_head}
use Rattle.code_sets.proofs.MeaningLaws.{Means, byte_of_a, byte_of_b, pair_of_c, a_to_c, b_to_c, a_to_b, c_to_b, b_to_a, c_to_a, separates, means}
use Rattle.spelling.proofs.BestLaws.{pair_of, b_stays, b_changes, c_changes, c_separator, c_pair, best_in_b, best_in_c}
use Rattle.spelling.proofs.Shortest.{best_from, digit_of}

follows : (best : List ℕ) (v : ℕ) (after values : List ℕ) → better best (v ∷ after) ≡ true → better after values ≡ true → better best (v ∷ values) ≡ true
follows best v after values e d = better_trans best (v ∷ after) (v ∷ values) e (better_same_head v after values d)

value_of_byte : (v : ℕ) → value_b (v + 32) ≡ v
value_of_byte v = rw (ne_eqb (v + 32) 29 (omega arith)) (omega arith)

module _ (values text : List ℕ) where
  first_byte : {v b : ℕ} {set : Set} → Means v set (byte b) → (set ≡ set_a → ⊥) → better (best_from set text) values ≡ true → better (best_from set (b ∷ text)) (v ∷ values) ≡ true
  first_byte (byte_of_a h) not_a e = absurd (not_a refl)
  first_byte {v} (byte_of_b h) not_a e =
      follows (from_b ((v + 32) ∷ text)) v (from_b text) values
      (subst (λ (x : ℕ). better (from_b ((v + 32) ∷ text)) (x ∷ from_b text) ≡ true) (value_of_byte v) (b_stays (v + 32) text))
      e

  first_pair : {v d : ℕ} {set : Set} → Means v set (pair d) → better (best_from set text) values ≡ true → better (best_from set ((48 + d / 10) ∷ (48 + d % 10) ∷ text)) (v ∷ values) ≡ true
  first_pair {v} (pair_of_c h) e =
      let a = 48 + v / 10 in
      let b = 48 + v % 10 in
      let whole : pair_of a b ≡ v = omega arith in
      follows (from_c (a ∷ b ∷ text)) v (from_c text) values
      (subst (λ (x : ℕ). better (from_c (a ∷ b ∷ text)) (x ∷ from_c text) ≡ true) whole
      (c_pair a b text (digit_of (v / 10) (omega arith)) (digit_of (v % 10) (omega arith))))
      e

  first_separator : (set : Set) → (set ≡ set_a → ⊥) → better (best_from set text) values ≡ true → better (best_from set (29 ∷ text)) (102 ∷ values) ≡ true
  first_separator set_a not_a e = absurd (not_a refl)
  first_separator set_b not_a e = follows (from_b (29 ∷ text)) 102 (from_b text) values (b_stays 29 text) e
  first_separator set_c not_a e = follows (from_c (29 ∷ text)) 102 (from_c text) values (c_separator text) e

  first_change : {v : ℕ} {set next : Set} → Means v set (change next) → (set ≡ set_a → ⊥) → (next ≡ set_a → ⊥) → better (best_from next text) values ≡ true → better (best_from set text) (v ∷ values) ≡ true
  first_change (a_to_c h) not_a next-not e = absurd (not_a refl)
  first_change (b_to_c h) not_a next-not e = rw h (follows (from_b text) 99 (from_c text) values (b_changes text) e)
  first_change (a_to_b h) not_a next-not e = absurd (not_a refl)
  first_change (c_to_b h) not_a next-not e = rw h (follows (from_c text) 100 (from_b text) values (c_changes text) e)
  first_change (b_to_a h) not_a next-not e = absurd (next-not refl)
  first_change (c_to_a h) not_a next-not e = absurd (next-not refl)

first_nothing : (set : Set) → better (best_from set []) [] ≡ true
unfolding bests
first_nothing set_a = better_refl []
first_nothing set_b = better_refl []
first_nothing set_c = better_refl []

fnc1 : {v : ℕ} {set : Set} → Means v set separator → v ≡ 102
fnc1 (separates h) = h

pub none_before_from : {set : Set} {values text : List ℕ} (spelled : Spells set values text) → OnlyBC spelled → (set ≡ set_a → ⊥) → better (best_from set text) values ≡ true
none_before_from (ended {set = set}) only not_a = first_nothing set
none_before_from (a_byte {values = values} {text = text} is legal rest) only not_a = first_byte values text (means _ _ is) not_a (none_before_from rest only not_a)
none_before_from (a_pair {values = values} {text = text} is rest) only not_a = first_pair values text (means _ _ is) (none_before_from rest only not_a)
none_before_from (a_shift is low legal rest) only not_a = absurd only
none_before_from (a_change {values = values} {text = text} is rest) only not_a =
    first_change values text (means _ _ is) not_a only.0 (none_before_from rest only.1 only.0)
none_before_from (a_separator {set = set} {values = values} {text = text} is rest) only not_a =
    subst (λ (v : ℕ). better (best_from set (29 ∷ text)) (v ∷ values) ≡ true) (sym (fnc1 (means _ _ is))) (first_separator values text set not_a (none_before_from rest only not_a))

-- the best is no worse than any spelling in sets B and C
module _ (values text : List ℕ) where
  best_after : (start : ℕ) (set : Set) → better (best_spelling text) (start ∷ 102 ∷ best_from set text) ≡ true → (set ≡ set_a → ⊥) → SpellsBC set values text → better (best_spelling text) (start ∷ 102 ∷ values) ≡ true
  best_after start set best not_a s =
      follows (best_spelling text) start (102 ∷ best_from set text) (102 ∷ values) best
      (better_same_head 102 (best_from set text) values (none_before_from s.0 s.1 not_a))

  pub best_of_bc : (start : ℕ) → 104 ≤ start → start ≤ 105 → SpellsBC (start_set start) values text → better (best_spelling text) (start ∷ 102 ∷ values) ≡ true
  best_of_bc start low high spelled = go (eqb start 104) refl
    where
      at : (n : ℕ) → (SpellsBC (start_set n) values text → better (best_spelling text) (n ∷ 102 ∷ values) ≡ true) → n ≡ start → better (best_spelling text) (start ∷ 102 ∷ values) ≡ true
      at n best is = subst (λ (x : ℕ). SpellsBC (start_set x) values text → better (best_spelling text) (x ∷ 102 ∷ values) ≡ true) is best spelled

      go : (t : Bool) → eqb start 104 ≡ t → better (best_spelling text) (start ∷ 102 ∷ values) ≡ true
      go true e = at 104 (best_after 104 set_b (best_in_b text) (λ e. let z : ◌≡◌ {A = ℕ} 0 1 = cc in omega arith)) (sym (eqb-true start 104 e))
      go false e = at 105 (best_after 105 set_c (best_in_c text) (λ e. let z : ◌≡◌ {A = ℕ} 0 1 = cc in omega arith)) (omega (arith, eqb-false start 104 e))

-- "among the shortest that use only B and C, compare the values from the start on; at the first difference the smaller value wins"
pub none_before : (start : ℕ) (values text : List ℕ) → 104 ≤ start → start ≤ 105 → SpellsBC (start_set start) values text → length (start ∷ 102 ∷ values) ≡ length (best_spelling text) → comes_first (best_spelling text) (start ∷ 102 ∷ values) ≡ true
none_before start values text low high spelled same = go (better_cases (best_spelling text) (start ∷ 102 ∷ values) (best_of_bc values text start low high spelled))
  where
    go : (length (best_spelling text) < length (start ∷ 102 ∷ values)) ⊎ ((length (best_spelling text) ≡ length (start ∷ 102 ∷ values)) × (comes_first (best_spelling text) (start ∷ 102 ∷ values) ≡ true)) → comes_first (best_spelling text) (start ∷ 102 ∷ values) ≡ true
    go (inl h) = absurd (omega arith)
    go (inr h) = h.1

-- in other words: it is the best itself, or at the first difference the best has the smaller value
pub smaller_at_difference : (start : ℕ) (values text : List ℕ) → 104 ≤ start → start ≤ 105 → SpellsBC (start_set start) values text → length (start ∷ 102 ∷ values) ≡ length (best_spelling text) → (best_spelling text ≡ start ∷ 102 ∷ values) ⊎ Precedes (best_spelling text) (start ∷ 102 ∷ values)
smaller_at_difference start values text low high spelled same =
    (first_means (best_spelling text) (start ∷ 102 ∷ values) (sym same)).0 (none_before start values text low high spelled same)
