-- One step of the best spelling: from set B it is no worse than the byte's value and what is best from B after it, from set C no worse than
-- FNC1 or a pair and what is best from C after it, and from each no worse than the change and what is best from the other.
use Rattle.std.specs.Prelude.{Option, Some, None}
use Prim.Native.Nat.{ℕ, ◌+◌, ◌*◌, ◌≤◌}
use mathlib.Core.Path.{◌≡◌, refl, sym, subst}
use mathlib.Core.Bool.{Bool, true, false, cond, ◌&&◌}
use mathlib.Core.List.{List, [], ◌∷◌}
use native.Mathlib.Omega.{arith}
use lib.ListN.{length}
use lib.Dec.{eqb}
use borrow.Author.Tests.{eqb-true, ne_eqb}
use Rattle.laws.proofs.Booleans.{both_hold}
use Rattle.digits.specs.Digit.{is_digit, value_of}
use Rattle.digits.proofs.DigitLaws.{digit_range}
use Rattle.character_set_82.specs.Characters.{separator}
use Rattle.spelling.specs.Best.{better, better_of, value_b, first_c, chosen, bests, best_spelling, from_b, from_c}
use Rattle.spelling.proofs.OrderLaws.{better_fewer, better_length, better_refl, better_of_two, better_than_left, better_than_right}

abbrev pub pair_of : ℕ → ℕ → ℕ
pair_of a b = 10 * value_of a + value_of b

-- how a text begins in set C, with no change
abbrev pub begin_c : ℕ → List ℕ → Option (List ℕ)
begin_c byte rest = first_c byte rest (bests rest).0 (bests rest).1

pub begins_separator : (rest : List ℕ) → begin_c separator rest ≡ Some (102 ∷ from_c rest)
begins_separator [] = refl
begins_separator (next ∷ more) = refl

pub begins_pair : (a b : ℕ) (rest : List ℕ) → is_digit a ≡ true → is_digit b ≡ true → begin_c a (b ∷ rest) ≡ Some (pair_of a b ∷ from_c rest)
unfolding bests
begins_pair a b rest p q = let range = digit_range a p in rw (ne_eqb a separator (omega arith), p, q)

-- the ways in which a text begins in set C
pub data Begins : ℕ → List ℕ → Option (List ℕ) → Type 0 where
  with_separator : {rest : List ℕ} → Begins separator rest (Some (102 ∷ from_c rest))
  with_pair : {a b : ℕ} {rest : List ℕ} → is_digit a ≡ true → is_digit b ≡ true → Begins a (b ∷ rest) (Some (pair_of a b ∷ from_c rest))
  with_change : {byte : ℕ} {rest : List ℕ} → Begins byte rest None

pub begins : (byte : ℕ) (rest : List ℕ) → Begins byte rest (begin_c byte rest)
unfolding bests
begins byte [] = go (eqb byte separator) refl
  where
    go : (t : Bool) → eqb byte separator ≡ t → Begins byte [] (cond t (Some (102 ∷ [])) None)
    go true e = rw (eqb-true byte separator e) with_separator
    go false e = with_change
begins byte (next ∷ more) = go (eqb byte separator) refl
  where
    two : (t : Bool) → (is_digit byte && is_digit next) ≡ t → Begins byte (next ∷ more) (cond t (Some (pair_of byte next ∷ from_c more)) None)
    two true e = let both = both_hold (is_digit byte) (is_digit next) e in with_pair both.0 both.1
    two false e = with_change

    go : (t : Bool) → eqb byte separator ≡ t → Begins byte (next ∷ more) (cond t (Some (102 ∷ from_c (next ∷ more))) (cond (is_digit byte && is_digit next) (Some (pair_of byte next ∷ from_c more)) None))
    go true e = rw (eqb-true byte separator e) with_separator
    go false e = two (is_digit byte && is_digit next) refl

-- the choice between staying and changing
module _ (b : List ℕ) where
  chosen_to_c : (o : Option (List ℕ)) → better (chosen b o).in_b (99 ∷ (chosen b o).in_c) ≡ true
  chosen_to_c None = better_fewer b (99 ∷ 100 ∷ b) (omega arith)
  chosen_to_c (Some c) =
      let stay : length (better_of b (99 ∷ c)) ≤ length b = better_length (better_of b (99 ∷ c)) b (better_than_left b (99 ∷ c)) in
      better_of_two (λ (z : List ℕ). better (better_of b (99 ∷ c)) (99 ∷ z) ≡ true) c (100 ∷ b)
      (better_than_right b (99 ∷ c))
      (better_fewer (better_of b (99 ∷ c)) (99 ∷ 100 ∷ b) (omega arith))

  chosen_to_b : (o : Option (List ℕ)) → better (chosen b o).in_c (100 ∷ (chosen b o).in_b) ≡ true
  chosen_to_b None = better_refl (100 ∷ b)
  chosen_to_b (Some c) =
      let stay : length (better_of c (100 ∷ b)) ≤ length c = better_length (better_of c (100 ∷ b)) c (better_than_left c (100 ∷ b)) in
      better_of_two (λ (z : List ℕ). better (better_of c (100 ∷ b)) (100 ∷ z) ≡ true) b (99 ∷ c)
      (better_than_right c (100 ∷ b))
      (better_fewer (better_of c (100 ∷ b)) (100 ∷ 99 ∷ c) (omega arith))

  chosen_stays : (o : Option (List ℕ)) → better (chosen b o).in_b b ≡ true
  chosen_stays None = better_refl b
  chosen_stays (Some c) = better_than_left b (99 ∷ c)

  chosen_begins : (c : List ℕ) → better (chosen b (Some c)).in_c c ≡ true
  chosen_begins c = better_than_left c (100 ∷ b)

  -- from each set something is spelled
  chosen_some : (c : List ℕ) → 1 ≤ length b → 1 ≤ length c → (1 ≤ length (better_of b (99 ∷ c))) × (1 ≤ length (better_of c (100 ∷ b)))
  chosen_some c h k = (
    better_of_two (λ (z : List ℕ). 1 ≤ length z) b (99 ∷ c) h (omega arith),
    better_of_two (λ (z : List ℕ). 1 ≤ length z) c (100 ∷ b) k (omega arith),
  )

pub b_stays : (byte : ℕ) (rest : List ℕ) → better (from_b (byte ∷ rest)) (value_b byte ∷ from_b rest) ≡ true
unfolding bests
b_stays byte rest = chosen_stays (value_b byte ∷ from_b rest) (begin_c byte rest)

pub b_changes : (text : List ℕ) → better (from_b text) (99 ∷ from_c text) ≡ true
unfolding bests
b_changes [] = better_fewer [] (99 ∷ []) (omega arith)
b_changes (byte ∷ rest) = chosen_to_c (value_b byte ∷ from_b rest) (begin_c byte rest)

pub c_changes : (text : List ℕ) → better (from_c text) (100 ∷ from_b text) ≡ true
unfolding bests
c_changes [] = better_fewer [] (100 ∷ []) (omega arith)
c_changes (byte ∷ rest) = chosen_to_b (value_b byte ∷ from_b rest) (begin_c byte rest)

c_begins : (byte : ℕ) (rest c : List ℕ) → begin_c byte rest ≡ Some c → better (from_c (byte ∷ rest)) c ≡ true
unfolding bests
c_begins byte rest c e =
    subst (λ (o : Option (List ℕ)). better (chosen (value_b byte ∷ from_b rest) o).in_c c ≡ true) (sym e) (chosen_begins (value_b byte ∷ from_b rest) c)

pub c_separator : (rest : List ℕ) → better (from_c (separator ∷ rest)) (102 ∷ from_c rest) ≡ true
c_separator rest = c_begins separator rest (102 ∷ from_c rest) (begins_separator rest)

pub c_pair : (a b : ℕ) (rest : List ℕ) → is_digit a ≡ true → is_digit b ≡ true → better (from_c (a ∷ b ∷ rest)) (pair_of a b ∷ from_c rest) ≡ true
c_pair a b rest p q = c_begins a (b ∷ rest) (pair_of a b ∷ from_c rest) (begins_pair a b rest p q)

-- the lengths of the two differ by one at the most
pub b_most : (text : List ℕ) → length (from_b text) ≤ 1 + length (from_c text)
b_most text = omega (arith, better_length (from_b text) (99 ∷ from_c text) (b_changes text))

pub c_most : (text : List ℕ) → length (from_c text) ≤ 1 + length (from_b text)
c_most text = omega (arith, better_length (from_c text) (100 ∷ from_b text) (c_changes text))

-- a character for each byte at the most
pub b_short : (text : List ℕ) → length (from_b text) ≤ length text
unfolding bests
b_short [] = omega arith
b_short (byte ∷ rest) = omega (arith, better_length (from_b (byte ∷ rest)) (value_b byte ∷ from_b rest) (b_stays byte rest), b_short rest)

pub both_long : (text : List ℕ) → 1 ≤ length text → (1 ≤ length (from_b text)) × (1 ≤ length (from_c text))
unfolding bests
both_long [] h = absurd (omega arith)
both_long (byte ∷ rest) h = go (begins byte rest) (value_b byte ∷ from_b rest) (omega arith)
  where
    go : {byte : ℕ} {rest : List ℕ} {o : Option (List ℕ)} → Begins byte rest o → (b : List ℕ) → 1 ≤ length b → (1 ≤ length (chosen b o).in_b) × (1 ≤ length (chosen b o).in_c)
    go (with_separator {rest = rest}) b h = chosen_some b (102 ∷ from_c rest) h (omega arith)
    go (with_pair {a = a} {b = a'} {rest = rest} p q) b h = chosen_some b (pair_of a a' ∷ from_c rest) h (omega arith)
    go with_change b h = (h, omega arith)

-- the best from set B after start B, and from set C after start C
pub best_in_b : (text : List ℕ) → better (best_spelling text) (104 ∷ 102 ∷ from_b text) ≡ true
unfolding best_spelling
best_in_b text = better_than_left (104 ∷ 102 ∷ from_b text) (105 ∷ 102 ∷ from_c text)

pub best_in_c : (text : List ℕ) → better (best_spelling text) (105 ∷ 102 ∷ from_c text) ≡ true
unfolding best_spelling
best_in_c text = better_than_right (104 ∷ 102 ∷ from_b text) (105 ∷ 102 ∷ from_c text)

pub best_short : (text : List ℕ) → length (best_spelling text) ≤ length text + 2
best_short text = omega (arith, better_length (best_spelling text) (104 ∷ 102 ∷ from_b text) (best_in_b text), b_short text)

pub best_long : (text : List ℕ) → 1 ≤ length text → 3 ≤ length (best_spelling text)
unfolding best_spelling
best_long text h =
    let long = both_long text h in
    better_of_two (λ (z : List ℕ). 3 ≤ length z) (104 ∷ 102 ∷ from_b text) (105 ∷ 102 ∷ from_c text) (omega (arith, long.0)) (omega (arith, long.1))
