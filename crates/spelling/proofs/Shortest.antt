-- No legal spelling is shorter than the best, sets A, B and C and shifts included: by induction on the spelling, each value of it saves
-- the best one character at the most. Sets A and B cost the same, a shift is two characters for one byte, and a change is one for none.
use Prim.Native.Nat.{ℕ, ◌+◌, ◌/◌, ◌%◌, ◌≤◌, ◌<◌}
use mathlib.Core.Path.{◌≡◌}
use mathlib.Core.Bool.{true}
use mathlib.Core.List.{List, [], ◌∷◌}
use native.Mathlib.Omega.{arith}
use lib.ListN.{length}
use borrow.Author.Tests.{le-leb}
use Rattle.digits.specs.Digit.{is_digit}
use Rattle.code_sets.specs.declared.sets.Set.{Set}
use Rattle.code_sets.specs.declared.sets.Set.TheVariants.{A as set_a, B as set_b, C as set_c}
use Rattle.code_sets.specs.declared.sets.Meaning.TheVariants.{Byte as byte, Pair as pair, Change as change, Shift as shift}
use Rattle.code_sets.specs.Sets.{byte_in, other}
use Rattle.code_sets.specs.Spelling.{Spells, ended, a_byte, a_pair, a_shift, a_change, a_separator}
use Rattle.code_sets.specs.Reading.{start_set}
use Rattle.spelling.specs.Best.{value_b, bests, best_spelling, from_b, from_c}
use Rattle.spelling.proofs.OrderLaws.{better_length}
use Rattle.code_sets.proofs.MeaningLaws.{Means, byte_of_a, byte_of_b, pair_of_c, shift_of_a, shift_of_b, a_to_c, b_to_c, a_to_b, c_to_b, b_to_a, c_to_a, means}
use Rattle.spelling.proofs.BestLaws.{pair_of, b_stays, b_most, c_most, c_separator, c_pair, best_in_b, best_in_c}

-- what is best from a set on; set A costs what set B does
abbrev pub best_from : Set → List ℕ → List ℕ
best_from set_a text = from_b text
best_from set_b text = from_b text
best_from set_c text = from_c text

-- a digit of a pair
pub digit_of : (n : ℕ) → n < 10 → is_digit (48 + n) ≡ true
digit_of n h = rw (le-leb 48 (48 + n) (omega arith), le-leb (48 + n) 57 (omega arith))

-- one byte more in set B
b_more : (b : ℕ) (text : List ℕ) → length (from_b (b ∷ text)) ≤ 1 + length (from_b text)
b_more b text = omega (arith, better_length (from_b (b ∷ text)) (value_b b ∷ from_b text) (b_stays b text))

module _ (text : List ℕ) where
  more_byte : {v b : ℕ} {set : Set} → Means v set (byte b) → length (best_from set (b ∷ text)) ≤ 1 + length (best_from set text)
  more_byte (byte_of_a h) = b_more _ text
  more_byte (byte_of_b h) = b_more _ text

  more_shift : {v : ℕ} {set : Set} → Means v set shift → (b : ℕ) → length (best_from set (b ∷ text)) ≤ 1 + length (best_from set text)
  more_shift (shift_of_a h) b = b_more b text
  more_shift (shift_of_b h) b = b_more b text

  more_pair : {v d : ℕ} {set : Set} → Means v set (pair d) → length (best_from set ((48 + d / 10) ∷ (48 + d % 10) ∷ text)) ≤ 1 + length (best_from set text)
  more_pair {v} (pair_of_c h) =
      let a = 48 + v / 10 in
      let b = 48 + v % 10 in
      omega (arith, better_length (from_c (a ∷ b ∷ text)) (pair_of a b ∷ from_c text) (c_pair a b text (digit_of (v / 10) (omega arith)) (digit_of (v % 10) (omega arith))))

  more_separator : (set : Set) → length (best_from set (29 ∷ text)) ≤ 1 + length (best_from set text)
  more_separator set_a = b_more 29 text
  more_separator set_b = b_more 29 text
  more_separator set_c = omega (arith, better_length (from_c (29 ∷ text)) (102 ∷ from_c text) (c_separator text))

  more_change : {v : ℕ} {set next : Set} → Means v set (change next) → length (best_from set text) ≤ 1 + length (best_from next text)
  more_change (a_to_c h) = b_most text
  more_change (b_to_c h) = b_most text
  more_change (a_to_b h) = omega arith
  more_change (c_to_b h) = c_most text
  more_change (b_to_a h) = omega arith
  more_change (c_to_a h) = c_most text

from_nothing : (set : Set) → length (best_from set []) ≤ 0
unfolding bests
from_nothing set_a = omega arith
from_nothing set_b = omega arith
from_nothing set_c = omega arith

pub none_shorter_from : {set : Set} {values text : List ℕ} → Spells set values text → length (best_from set text) ≤ length values
none_shorter_from (ended {set = set}) = from_nothing set
none_shorter_from (a_byte {text = text} is legal rest) = omega (arith, more_byte text (means _ _ is), none_shorter_from rest)
none_shorter_from (a_pair {text = text} is rest) = omega (arith, more_pair text (means _ _ is), none_shorter_from rest)
none_shorter_from (a_shift {set = set} {shifted = shifted} {text = text} is low legal rest) =
    omega (arith, more_shift text (means _ _ is) (byte_in (other set) shifted), none_shorter_from rest)
none_shorter_from (a_change {text = text} is rest) = omega (arith, more_change text (means _ _ is), none_shorter_from rest)
none_shorter_from (a_separator {set = set} {text = text} is rest) = omega (arith, more_separator text set, none_shorter_from rest)

best_most : (set : Set) (text : List ℕ) → length (best_spelling text) ≤ 2 + length (best_from set text)
best_most set_a text = omega (arith, better_length (best_spelling text) (104 ∷ 102 ∷ from_b text) (best_in_b text))
best_most set_b text = omega (arith, better_length (best_spelling text) (104 ∷ 102 ∷ from_b text) (best_in_b text))
best_most set_c text = omega (arith, better_length (best_spelling text) (105 ∷ 102 ∷ from_c text) (best_in_c text))

-- "no legal spelling of the message, sets A to C and shifts included, has a smaller n"
pub none_shorter : (start : ℕ) (values text : List ℕ) → 103 ≤ start → start ≤ 105 → Spells (start_set start) values text → length (best_spelling text) ≤ length (start ∷ 102 ∷ values)
none_shorter start values text low high spelled = omega (arith, best_most (start_set start) text, none_shorter_from spelled)
