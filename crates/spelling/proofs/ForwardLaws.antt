-- The forward pass: the state at a place decides the value there, which stands before what is best from the set and the place that come
-- next.
use Prim.Native.Nat.{ℕ, ◌+◌, ◌≤◌, ◌<◌}
use mathlib.Core.Path.{◌≡◌, refl, sym, ap, subst, ◌∙◌}
use mathlib.Core.Bool.{Bool, true, false, cond}
use mathlib.Core.List.{List, [], ◌∷◌, ◌++◌}
use native.Mathlib.Numerals.{add-one}
use native.Mathlib.Omega.{arith}
use lib.ListN.{length, get_or, set, take, drop, length-drop, drop_of_length-le}
use lib.Seq.{drop-cons, drop-drop, get_or-drop}
use lib.Dec.{ltb}
use borrow.Author.Tests.{lt-ltb, le-ltb}
use Rattle.laws.proofs.Copying.{copied_more}
use Rattle.digits.specs.Digit.{is_digit}
use Rattle.digits.proofs.DigitLaws.{digit_range}
use Rattle.character_set_82.specs.Characters.{separator}
use Rattle.spelling.specs.declared.Step.{Step}
use Rattle.spelling.specs.Best.{value_b, bests, from_c}
use Rattle.spelling.specs.States.{from, way_of, state_of, Steps}
use Rattle.spelling.proofs.BestLaws.{pair_of}
use Rattle.spelling.proofs.StateLaws.{InC, parts, pairs, Goes, goes_in_b, goes_to_c, goes_to_b, goes_in_c, goes_on}

-- FNC1 in set C
parted_of : {byte : ℕ} {rest : List ℕ} → InC byte rest → byte ≡ separator → from_c (byte ∷ rest) ≡ 102 ∷ from_c rest
parted_of (parts e) is = e
parted_of (pairs {a = a} p q e) is = absurd (omega (arith, digit_range a p))

-- two digits in set C
record Paired (byte : ℕ) (rest : List ℕ) : Type 0 where
  first : is_digit byte ≡ true
  second : is_digit (get_or rest 0 0) ≡ true
  two : 1 ≤ length rest
  best : from_c (byte ∷ rest) ≡ pair_of byte (get_or rest 0 0) ∷ from_c (drop 1 rest)

paired_of : {byte : ℕ} {rest : List ℕ} → InC byte rest → (byte ≡ separator → ⊥) → Paired byte rest
paired_of (parts e) other = absurd (other refl)
paired_of (pairs p q e) other = record { first = p; second = q; two = omega arith; best = e }

way_to_c : (s : ℕ) → s < 12 → way_of s ≤ 1
way_to_c s h = go (ltb s 4)
  where
    go : (t : Bool) → cond t 0 (cond (ltb s 12) 1 2) ≤ 1
    go true = omega arith
    go false = rw (lt-ltb s 12 h) (omega arith)

way_from_b : (s : ℕ) → 4 ≤ s → 1 ≤ way_of s
way_from_b s h = rw (le-ltb s 4 h) (go (ltb s 12))
  where
    go : (t : Bool) → 1 ≤ cond t 1 2
    go true = omega arith
    go false = omega arith

module _ (message : List ℕ) (at : ℕ) (h : at < length message) (state : ℕ) (is : state ≡ state_of (drop at message)) where
  abbrev byte : ℕ
  byte = get_or message at 0

  abbrev rest : List ℕ
  rest = drop (at + 1) message

  whole : drop at message ≡ byte ∷ rest
  whole = rw add-one (drop-cons message at 0 h)

  goes : Goes (way_of state) byte rest
  goes = subst (λ (s : ℕ). Goes (way_of s) byte rest) (sym (is ∙ ap state_of whole)) (goes_on byte rest)

  pub to_c : 12 ≤ state → Steps message false at (record { value = 99; next = at; c = true })
  to_c on = record { best = rw whole (goes_to_c goes (simp (le-ltb state 4 (omega arith), le-ltb state 12 on) (omega arith))); within = omega arith }

  pub in_b : state < 12 → (v : ℕ) → v ≡ value_b byte → Steps message false at (record { value = v; next = at + 1; c = false })
  in_b on v is = record { best = rw (whole, is) (goes_in_b goes (way_to_c state on)); within = omega arith }

  pub to_b : state < 4 → Steps message true at (record { value = 100; next = at; c = false })
  to_b on = record { best = rw whole (goes_to_b goes (simp (lt-ltb state 4 on) (omega arith))); within = omega arith }

  pub in_c_parted : 4 ≤ state → byte ≡ separator → Steps message true at (record { value = 102; next = at + 1; c = true })
  in_c_parted on parting = record { best = rw whole (parted_of (goes_in_c goes (way_from_b state on)) parting); within = omega arith }

  module _ (on : 4 ≤ state) (other : byte ≡ separator → ⊥) where
    paired : Paired byte rest
    paired = paired_of (goes_in_c goes (way_from_b state on)) other

    next_is : get_or rest 0 0 ≡ get_or message (at + 1) 0
    next_is = get_or-drop (at + 1) message 0 0 ∙ ap (λ (k : ℕ). get_or message k 0) (omega arith)

    pub pair_within : at + 1 < length message
    pair_within = omega (arith, paired.two, length-drop (at + 1) message)

    pub pair_first : (48 ≤ byte) × (byte ≤ 57)
    pair_first = digit_range byte paired.first

    pub pair_second : (48 ≤ get_or message (at + 1) 0) × (get_or message (at + 1) 0 ≤ 57)
    pair_second = digit_range (get_or message (at + 1) 0) (ap is_digit (sym next_is) ∙ paired.second)

    pub in_c_paired : Steps message true at (record { value = pair_of byte (get_or message (at + 1) 0); next = at + 2; c = true })
    in_c_paired =
        let two : at + 1 + 1 ≡ at + 2 = omega arith in
        let past : drop 1 rest ≡ drop (at + 2) message = drop-drop 1 (at + 1) message ∙ ap (λ (k : ℕ). drop k message) two in
        record { best = rw (whole, ← next_is, ← past) paired.best; within = omega (arith, pair_within) }

-- n values of a spelling, and after them what a list held before; what is left of the spelling is what is best from set and place
pub record Written (best before message : List ℕ) (c : Bool) (at n : ℕ) (values : List ℕ) : Type 0 where
  pub room : length best ≤ length before
  pub few : n ≤ length best
  pub left : drop n best ≡ from c (drop at message)
  pub lent : values ≡ take n best ++ drop n before

-- one value more of a spelling that has come so far
module _ (best before message : List ℕ) (c : Bool) (i n : ℕ) (values : List ℕ) (w : Written best before message c i n values) (step : Step) (on : Steps message c i step) where
  left : drop n best ≡ step.value ∷ from step.c (drop step.next message)
  left = w.left ∙ on.best

  value_within : n < length best
  value_within = omega (arith, ap length left, length-drop n best)

  pub written_more : Written best before message step.c step.next (n + 1) (set values n step.value)
  written_more =
      let first : get_or best n 0 ≡ step.value =
      ap (λ (k : ℕ). get_or best k 0) (omega arith) ∙ sym (get_or-drop n best 0 0) ∙ ap (λ (l : List ℕ). get_or l 0 0) left in
      record {
        room = w.room;
        few = omega (arith, value_within);
        left = sym (drop-drop 1 n best) ∙ ap (drop 1) left;
        lent = rw (w.lent, ← first) (copied_more best before n 0 value_within (omega (arith, value_within, w.room)));
      }

pub nothing_left : (c : Bool) (message : List ℕ) (i : ℕ) → length message ≤ i → from c (drop i message) ≡ []
unfolding bests
nothing_left true message i h = rw (drop_of_length-le message {i = i} h)
nothing_left false message i h = rw (drop_of_length-le message {i = i} h)
