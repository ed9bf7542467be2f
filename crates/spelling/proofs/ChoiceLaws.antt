-- The best spelling is found by lengths alone: where two spellings begin with different values, the longer loses, and of two of one length the
-- one with the greater first value. In set C two digits are always a pair, since what is best from B never grows shorter by a byte more.
use Rattle.std.specs.Prelude.{Option, Some, None}
use Prim.Native.Nat.{ℕ, suc, ◌+◌, ◌≤◌, ◌<◌}
use mathlib.Core.Path.{◌≡◌, refl, ap, ◌∙◌}
use mathlib.Core.Bool.{Bool, true, false, cond, ◌&&◌}
use mathlib.Core.List.{List, [], ◌∷◌}
use native.Mathlib.Omega.{arith}
use lib.ListN.{length, get_or}
use lib.Dec.{eqb, ltb}
use borrow.Author.Tests.{ne_eqb, le-ltb, ltb-true, ltb-false}
use Rattle.digits.specs.Digit.{is_digit}
use Rattle.digits.proofs.DigitLaws.{digit_range}
use Rattle.character_set_82.specs.Characters.{separator}
use Rattle.spelling.specs.Best.{comes_first, better, better_of, value_b, chosen, bests, best_spelling, from_b, from_c}
use Rattle.spelling.proofs.OrderLaws.{better_length, better_first, better_fewer, better_of_two, worse_more, first_by_less}
use Rattle.spelling.proofs.BestLaws.{pair_of, begin_c, Begins, with_separator, with_pair, with_change, begins, begins_separator, begins_pair, b_stays, b_most, c_most}

-- two spellings that begin with different values
module _ (x y : ℕ) (xs ys : List ℕ) where
  pub left_wins : x < y → length xs ≤ length ys → better_of (x ∷ xs) (y ∷ ys) ≡ x ∷ xs
  left_wins h l = rw (go (ltb (length xs) (length ys)) refl)
    where
      go : (t : Bool) → ltb (length xs) (length ys) ≡ t → better (x ∷ xs) (y ∷ ys) ≡ true
      go true e = better_fewer (x ∷ xs) (y ∷ ys) (omega (arith, ltb-true (length xs) (length ys) e))
      go false e = better_first (x ∷ xs) (y ∷ ys) (omega (arith, ltb-false (length xs) (length ys) e)) (first_by_less x y xs ys h)

  pub right_wins : y < x → length ys ≤ length xs → better_of (x ∷ xs) (y ∷ ys) ≡ y ∷ ys
  unfolding better comes_first
  right_wins h l = rw (le-ltb (suc (length xs)) (suc (length ys)) (omega arith), le-ltb x y (omega arith), ne_eqb x y (omega arith)) (go (eqb (suc (length xs)) (suc (length ys))))
    where
      go : (t : Bool) → cond (cond t false false) (x ∷ xs) (y ∷ ys) ≡ y ∷ ys
      go true = refl
      go false = refl

  pub right_is_shorter : length ys < length xs → better_of (x ∷ xs) (y ∷ ys) ≡ y ∷ ys
  right_is_shorter l = rw (worse_more (x ∷ xs) (y ∷ ys) (omega arith))

  pub left_is_shorter : length xs < length ys → better_of (x ∷ xs) (y ∷ ys) ≡ x ∷ xs
  left_is_shorter l = rw (better_fewer (x ∷ xs) (y ∷ ys) (omega arith))

-- a step where the way to begin in set C is known
module _ (byte : ℕ) (rest : List ℕ) (o : Option (List ℕ)) (begun : begin_c byte rest ≡ o) where
  from_b_lem : from_b (byte ∷ rest) ≡ (chosen (value_b byte ∷ from_b rest) o).in_b
  unfolding bests
  from_b_lem = ap (λ (o : Option (List ℕ)). (chosen (value_b byte ∷ from_b rest) o).in_b) begun

  from_c_lem : from_c (byte ∷ rest) ≡ (chosen (value_b byte ∷ from_b rest) o).in_c
  unfolding bests
  from_c_lem = ap (λ (o : Option (List ℕ)). (chosen (value_b byte ∷ from_b rest) o).in_c) begun

-- a byte more
pub b_grows : (byte : ℕ) (rest : List ℕ) → length (from_b rest) ≤ length (from_b (byte ∷ rest))
unfolding bests
b_grows byte rest = go (begins byte rest)
  where
    go : {byte : ℕ} {rest : List ℕ} {o : Option (List ℕ)} → Begins byte rest o → length (from_b rest) ≤ length (chosen (value_b byte ∷ from_b rest) o).in_b
    go (with_separator {rest = rest}) =
        better_of_two (λ (z : List ℕ). length (from_b rest) ≤ length z) (102 ∷ from_b rest) (99 ∷ 102 ∷ from_c rest) (omega arith) (omega (arith, b_most rest))
    go (with_pair {a = a} {b = b} {rest = rest} p q) =
        better_of_two (λ (z : List ℕ). length (from_b (b ∷ rest)) ≤ length z) (value_b a ∷ from_b (b ∷ rest)) (99 ∷ pair_of a b ∷ from_c rest)
        (omega arith)
        (omega (arith, better_length (from_b (b ∷ rest)) (value_b b ∷ from_b rest) (b_stays b rest), b_most rest))
    go (with_change {rest = rest}) = omega arith

module _ (rest : List ℕ) where
  pub separator_in_b : length (from_b rest) ≤ length (from_c rest) → from_b (separator ∷ rest) ≡ 102 ∷ from_b rest
  separator_in_b h = from_b_lem separator rest (Some (102 ∷ from_c rest)) (begins_separator rest) ∙ left_is_shorter 102 99 (from_b rest) (102 ∷ from_c rest) (omega arith)

  pub separator_to_c : length (from_c rest) < length (from_b rest) → from_b (separator ∷ rest) ≡ 99 ∷ 102 ∷ from_c rest
  separator_to_c h = from_b_lem separator rest (Some (102 ∷ from_c rest)) (begins_separator rest) ∙ right_wins 102 99 (from_b rest) (102 ∷ from_c rest) (omega arith) (omega arith)

  pub separator_in_c : length (from_c rest) ≤ length (from_b rest) → from_c (separator ∷ rest) ≡ 102 ∷ from_c rest
  separator_in_c h = from_c_lem separator rest (Some (102 ∷ from_c rest)) (begins_separator rest) ∙ left_is_shorter 102 100 (from_c rest) (102 ∷ from_b rest) (omega arith)

  pub separator_to_b : length (from_b rest) < length (from_c rest) → from_c (separator ∷ rest) ≡ 100 ∷ 102 ∷ from_b rest
  separator_to_b h = from_c_lem separator rest (Some (102 ∷ from_c rest)) (begins_separator rest) ∙ right_wins 102 100 (from_c rest) (102 ∷ from_b rest) (omega arith) (omega arith)

module _ (a b : ℕ) (rest : List ℕ) (p : is_digit a ≡ true) (q : is_digit b ≡ true) where
  value_below : value_b a < 99
  value_below = let range = digit_range a p in rw (ne_eqb a separator (omega arith)) (omega arith)

  pair_below : pair_of a b < 100
  pair_below = let range-a = digit_range a p in let range-b = digit_range b q in omega arith

  pub pair_in_b : length (from_b (b ∷ rest)) ≤ length (from_c rest) + 1 → from_b (a ∷ b ∷ rest) ≡ value_b a ∷ from_b (b ∷ rest)
  pair_in_b h =
      from_b_lem a (b ∷ rest) (Some (pair_of a b ∷ from_c rest)) (begins_pair a b rest p q)
      ∙ left_wins (value_b a) 99 (from_b (b ∷ rest)) (pair_of a b ∷ from_c rest) value_below (omega arith)

  pub pair_to_c : length (from_c rest) + 1 < length (from_b (b ∷ rest)) → from_b (a ∷ b ∷ rest) ≡ 99 ∷ pair_of a b ∷ from_c rest
  pair_to_c h =
      from_b_lem a (b ∷ rest) (Some (pair_of a b ∷ from_c rest)) (begins_pair a b rest p q)
      ∙ right_is_shorter (value_b a) 99 (from_b (b ∷ rest)) (pair_of a b ∷ from_c rest) (omega arith)

  pub pair_in_c : from_c (a ∷ b ∷ rest) ≡ pair_of a b ∷ from_c rest
  pair_in_c =
      from_c_lem a (b ∷ rest) (Some (pair_of a b ∷ from_c rest)) (begins_pair a b rest p q)
      ∙ left_wins (pair_of a b) 100 (from_c rest) (value_b a ∷ from_b (b ∷ rest)) pair_below (omega (arith, c_most rest, b_grows b rest))

pub begins_none : (byte : ℕ) (rest : List ℕ) → (byte ≡ separator → ⊥) → (is_digit byte && is_digit (get_or rest 0 0)) ≡ false → begin_c byte rest ≡ None
begins_none byte [] not_separator not-pair = rw (ne_eqb byte separator not_separator)
begins_none byte (next ∷ more) not_separator not-pair = rw (ne_eqb byte separator not_separator, not-pair)

-- any other byte has a value in set B only
module _ (byte : ℕ) (rest : List ℕ) (not_separator : byte ≡ separator → ⊥) (not-pair : (is_digit byte && is_digit (get_or rest 0 0)) ≡ false) where
  pub other_in_b : from_b (byte ∷ rest) ≡ value_b byte ∷ from_b rest
  other_in_b = from_b_lem byte rest None (begins_none byte rest not_separator not-pair)

  pub other_in_c : from_c (byte ∷ rest) ≡ 100 ∷ value_b byte ∷ from_b rest
  other_in_c = from_c_lem byte rest None (begins_none byte rest not_separator not-pair)

module _ (text : List ℕ) where
  pub start_in_b : length (from_b text) ≤ length (from_c text) → best_spelling text ≡ 104 ∷ 102 ∷ from_b text
  unfolding best_spelling
  start_in_b h = left_wins 104 105 (102 ∷ from_b text) (102 ∷ from_c text) (omega arith) (omega arith)

  pub start_in_c : length (from_c text) < length (from_b text) → best_spelling text ≡ 105 ∷ 102 ∷ from_c text
  unfolding best_spelling
  start_in_c h = right_is_shorter 104 105 (102 ∷ from_b text) (102 ∷ from_c text) (omega arith)
