-- What a value means in a set, read backwards: one case for each line of document 01's table of the sets. And so every value of a legal
-- spelling is one of 0 to 102.
use Prim.Native.Nat.{ℕ, ◌+◌, ◌<◌}
use mathlib.Core.Path.{◌≡◌, refl, subst}
use mathlib.Core.Bool.{Bool, true, false, cond}
use mathlib.Core.List.{List, ◌∷◌}
use native.Mathlib.Omega.{arith}
use lib.Dec.{eqb, ltb}
use borrow.Author.Tests.{ltb-true, eqb-true}
use Rattle.laws.specs.Below.{Below}
use Rattle.laws.proofs.BelowLaws.{below_of_nil, below_more}
use Rattle.code_sets.specs.Sets.{Set, set_a, set_b, set_c, Meaning, byte, pair, change, shift, separator, illegal, meaning_in, byte_in}
use Rattle.code_sets.specs.Spelling.{Spells, ended, a_byte, a_pair, a_shift, a_change, a_separator}

pub data Means (v : ℕ) : Set → Meaning → Type 0 where
  byte_of_a : v < 96 → Means v set_a (byte (byte_in set_a v))
  byte_of_b : v < 96 → Means v set_b (byte (v + 32))
  pair_of_c : v < 100 → Means v set_c (pair v)
  shift_of_a : v ≡ 98 → Means v set_a shift
  shift_of_b : v ≡ 98 → Means v set_b shift
  a_to_c : v ≡ 99 → Means v set_a (change set_c)
  b_to_c : v ≡ 99 → Means v set_b (change set_c)
  a_to_b : v ≡ 100 → Means v set_a (change set_b)
  c_to_b : v ≡ 100 → Means v set_c (change set_b)
  b_to_a : v ≡ 101 → Means v set_b (change set_a)
  c_to_a : v ≡ 101 → Means v set_c (change set_a)
  separates : {set : Set} → v ≡ 102 → Means v set separator
  means_nothing : {set : Set} → Means v set illegal

module _ (v : ℕ) (set : Set) where
  -- a test of the table's, and its two ways on
  by_below : (n : ℕ) (this others : Meaning) → (v < n → Means v set this) → Means v set others → Means v set (cond (ltb v n) this others)
  by_below n this others passed failed = go (ltb v n) refl
    where
      go : (b : Bool) → ltb v n ≡ b → Means v set (cond b this others)
      go true e = passed (ltb-true v n e)
      go false e = failed

  by_equal : (n : ℕ) (this others : Meaning) → (v ≡ n → Means v set this) → Means v set others → Means v set (cond (eqb v n) this others)
  by_equal n this others passed failed = go (eqb v n) refl
    where
      go : (b : Bool) → eqb v n ≡ b → Means v set (cond b this others)
      go true e = passed (eqb-true v n e)
      go false e = failed

meaning : (set : Set) (v : ℕ) → Means v set (meaning_in set v)
unfolding meaning_in
meaning set_a v =
    by_below v set_a 96 _ _ byte_of_a
    (by_equal v set_a 98 _ _ shift_of_a
    (by_equal v set_a 99 _ _ a_to_c (by_equal v set_a 100 _ _ a_to_b (by_equal v set_a 102 _ _ separates means_nothing))))
meaning set_b v =
    by_below v set_b 96 _ _ byte_of_b
    (by_equal v set_b 98 _ _ shift_of_b
    (by_equal v set_b 99 _ _ b_to_c (by_equal v set_b 101 _ _ b_to_a (by_equal v set_b 102 _ _ separates means_nothing))))
meaning set_c v =
    by_below v set_c 100 _ _ pair_of_c
    (by_equal v set_c 100 _ _ c_to_b (by_equal v set_c 101 _ _ c_to_a (by_equal v set_c 102 _ _ separates means_nothing)))

pub means : (set : Set) (v : ℕ) {m : Meaning} → meaning_in set v ≡ m → Means v set m
means set v e = subst (Means v set) e (meaning set v)

abbrev Legal : Meaning → Type 0
Legal (byte b) = Unit
Legal (pair d) = Unit
Legal (change next) = Unit
Legal shift = Unit
Legal separator = Unit
Legal illegal = ⊥

legal_most : {set : Set} {v : ℕ} {m : Meaning} → Means v set m → Legal m → v < 103
legal_most (byte_of_a h) legal = omega arith
legal_most (byte_of_b h) legal = omega arith
legal_most (pair_of_c h) legal = omega arith
legal_most (shift_of_a h) legal = omega arith
legal_most (shift_of_b h) legal = omega arith
legal_most (a_to_c h) legal = omega arith
legal_most (b_to_c h) legal = omega arith
legal_most (a_to_b h) legal = omega arith
legal_most (c_to_b h) legal = omega arith
legal_most (b_to_a h) legal = omega arith
legal_most (c_to_a h) legal = omega arith
legal_most (separates h) legal = omega arith
legal_most means_nothing legal = absurd legal

pub spelled_below : {set : Set} {values text : List ℕ} → Spells set values text → Below 103 values
spelled_below ended = below_of_nil 103
spelled_below (a_byte {values = values} is legal rest) = below_more 103 _ values (legal_most (means _ _ is) tt) (spelled_below rest)
spelled_below (a_pair {values = values} is rest) = below_more 103 _ values (legal_most (means _ _ is) tt) (spelled_below rest)
spelled_below (a_shift {shifted = shifted} {values = values} is low legal rest) =
    below_more 103 _ (shifted ∷ values) (legal_most (means _ _ is) tt) (below_more 103 shifted values (omega arith) (spelled_below rest))
spelled_below (a_change {values = values} is rest) = below_more 103 _ values (legal_most (means _ _ is) tt) (spelled_below rest)
spelled_below (a_separator {values = values} is rest) = below_more 103 _ values (legal_most (means _ _ is) tt) (spelled_below rest)
