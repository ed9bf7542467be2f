-- A symbol's widths, character by character: the six widths of each character tell it and sum to 11, and the stop is the last seven; so
-- widths have one list of characters, and a store to one width is seen in one character alone.
use Prim.Native.Nat.{ℕ, zero, suc, ◌+◌, ◌-◌, ◌*◌, ◌/◌, ◌%◌, ◌<◌}
use mathlib.Core.Path.{◌≡◌, refl, sym, ap, ap₂, ◌∙◌}
use mathlib.Core.Logic.{◌≢◌}
use mathlib.Core.List.{List, [], ◌∷◌, ◌++◌, append_assoc}
use native.Mathlib.Nat.{not-suc-le-zero, le_of_suc-le-suc}
use native.Mathlib.Decide.{dec_lt}
use native.Mathlib.Omega.{arith}
use lib.ListN.{length, get_or, set, take, drop}
use lib.Seq.{take_at, drop_at, drop-drop, get_or-take, get_or-drop, drop-set-lt, drop-set-add, take-set-le, take-set-lt}
use Rattle.laws.specs.Below.{Below}
use Rattle.laws.specs.Sum.{sum}
use Rattle.laws.proofs.BelowLaws.{below_more, below_first, below_rest}
use Rattle.laws.proofs.SumLaws.{sum_of_set}
use Rattle.refusal.proofs.OutcomeLaws.{made_same}
use Rattle.patterns.specs.Patterns.{value_in, drawn, characters}
use Rattle.patterns.proofs.PatternLaws.{value_at}
use Rattle.patterns.proofs.CharacterLaws.{characters_of_drawn}
use Rattle.code128.specs.Characters.{patterns, stop}
use Rattle.code128.specs.Check.{check_of}
use Rattle.code128.proofs.PatternLaws.{patterns_are, patterns_sized, distinct_test, pattern_length, pattern_sum}
use Rattle.gs1_128.specs.Symbol.{symbol_of}
use Rattle.gs1_128.specs.Right.{IsSymbol}
use Rattle.gs1_128.proofs.DrawnLaws.{length_stopped}
use Rattle.gs1_128.proofs.CheckedLaws.{Checked, checked_below, AgreeBut, one_place}

-- the six widths of the character at k
abbrev pub six_at : ℕ → List ℕ → List ℕ
six_at k widths = take 6 (drop (6 * k) widths)

-- a store to the width at i leaves every character but that of i as it was
pub six_elsewhere : (k : ℕ) (widths : List ℕ) (i x : ℕ) → i / 6 ≢ k → six_at k (set widths i x) ≡ six_at k widths
six_elsewhere k widths i x other = go (dec_lt i (6 * k))
  where
    go : Dec (i < 6 * k) → six_at k (set widths i x) ≡ six_at k widths
    go (yes before) = ap (take 6) (drop-set-lt (6 * k) widths i x before)
    go (no past) =
        let at : i ≡ 6 * k + (i - 6 * k) = omega arith in
        ap (λ (n : ℕ). six_at k (set widths n x)) at
        ∙ ap (take 6) (drop-set-add (6 * k) widths (i - 6 * k) x)
        ∙ take-set-le 6 (drop (6 * k) widths) (i - 6 * k) x (omega arith)

pub six_inside : (widths : List ℕ) (i x : ℕ) → six_at (i / 6) (set widths i x) ≡ set (six_at (i / 6) widths) (i % 6) x
six_inside widths i x =
    let at : i ≡ 6 * (i / 6) + i % 6 = omega arith in
    ap (λ (n : ℕ). six_at (i / 6) (set widths n x)) at
    ∙ ap (take 6) (drop-set-add (6 * (i / 6)) widths (i % 6) x)
    ∙ take-set-lt 6 (drop (6 * (i / 6)) widths) (i % 6) x (omega arith)

pub six_has : (widths : List ℕ) (i : ℕ) → get_or (six_at (i / 6) widths) (i % 6) 0 ≡ get_or widths i 0
six_has widths i =
    get_or-take 6 (drop (6 * (i / 6)) widths) (i % 6) 0 (omega arith)
    ∙ get_or-drop (6 * (i / 6)) widths (i % 6) 0
    ∙ ap (λ (n : ℕ). get_or widths n 0) (omega arith)

-- the six widths of the character at k, of what was drawn
six_of_drawn : (xs rest : List ℕ) → Below 106 xs → (k : ℕ) → k < length xs → six_at k (drawn patterns xs ++ rest) ≡ get_or patterns (get_or xs k 0) []
unfolding drawn
six_of_drawn [] rest below k h = absurd (not-suc-le-zero h)
six_of_drawn (x ∷ xs) rest below zero h =
    let row = get_or patterns x [] in
    ap (take 6) (append_assoc row (drawn patterns xs) rest) ∙ take_at row (drawn patterns xs ++ rest) 6 (pattern_length x (below_first 106 x xs below))
six_of_drawn (x ∷ xs) rest below (suc k) h =
    let row = get_or patterns x [] in
    let onward = drawn patterns xs ++ rest in
    let at : 6 * suc k ≡ 6 + 6 * k = omega arith in
    ap₂ (λ (n : ℕ) (l : List ℕ). take 6 (drop n l)) at (append_assoc row (drawn patterns xs) rest)
    ∙ ap (take 6) (sym (drop-drop (6 * k) 6 (row ++ onward)))
    ∙ ap (six_at k) (drop_at row onward 6 (pattern_length x (below_first 106 x xs below)))
    ∙ six_of_drawn xs rest (below_rest 106 x xs below) k (le_of_suc-le-suc h)

-- the widths of a list of characters and the stop are those of no other list
pub drawn_once : (xs ys : List ℕ) → Below 106 xs → Below 106 ys → drawn patterns xs ++ stop ≡ drawn patterns ys ++ stop → xs ≡ ys
drawn_once xs ys below below' e =
    let counts : length xs ≡ length ys = omega (arith, length_stopped xs below, length_stopped ys below', ap length e) in
    made_same xs ys
    (sym (characters_of_drawn patterns 6 patterns_sized distinct_test xs (rw patterns_are below) 0 stop)
    ∙ ap₂ (λ (n : ℕ) (widths : List ℕ). characters patterns 6 n 0 widths) counts e
    ∙ characters_of_drawn patterns 6 patterns_sized distinct_test ys (rw patterns_are below') 0 stop)

-- a symbol, by its characters before the stop
pub record IsDrawnFrom (widths characters : List ℕ) : Type 0 where
  pub checked : Checked characters
  pub is : widths ≡ drawn patterns characters ++ stop

module _ {widths xs : List ℕ} (a : IsDrawnFrom widths xs) where
  below : Below 106 xs
  below = checked_below a.checked

  pub length_of_drawn_from : length widths ≡ 6 * length xs + 7
  length_of_drawn_from = ap length a.is ∙ length_stopped xs below

  pub six_of : (k : ℕ) → k < length xs → six_at k widths ≡ get_or patterns (get_or xs k 0) []
  six_of k h = ap (six_at k) a.is ∙ six_of_drawn xs stop below k h

module _ {widths damaged xs ys : List ℕ} (a : IsDrawnFrom widths xs) (b : IsDrawnFrom damaged ys) (same_length : length damaged ≡ length widths) where
  counts : length xs ≡ length ys
  counts = omega (arith, length_of_drawn_from a, length_of_drawn_from b)

  -- two symbols that agree in every character but the one at k are equal
  pub one_character : (k : ℕ) → ((j : ℕ) → j < length xs → j ≢ k → six_at j damaged ≡ six_at j widths) → damaged ≡ widths
  one_character k same =
      let at : AgreeBut k xs ys =
      λ j h other. sym (value_at patterns distinct_test (get_or xs j 0) (rw patterns_are (below a j h)))
      ∙ ap (value_in patterns) (sym (six_of a j h) ∙ sym (same j h other) ∙ six_of b j (omega (arith, counts)))
      ∙ value_at patterns distinct_test (get_or ys j 0) (rw patterns_are (below b j (omega (arith, counts)))) in
      b.is ∙ ap (λ (zs : List ℕ). drawn patterns zs ++ stop) (sym (one_place a.checked b.checked counts k at)) ∙ sym a.is

  -- two symbols don't differ in one width of a character alone: each character sums to 11
  pub one_width : (k r x : ℕ) → k < length xs → r < 6 → six_at k damaged ≡ set (six_at k widths) r x → get_or (six_at k widths) r 0 ≡ x
  one_width k r x h l e =
      let before = get_or xs k 0 in
      let after = get_or ys k 0 in
      let old : sum (six_at k widths) ≡ 11 = ap sum (six_of a k h) ∙ pattern_sum before (below a k h) in
      let new : sum (six_at k damaged) ≡ 11 = ap sum (six_of b k (omega (arith, counts))) ∙ pattern_sum after (below b k (omega (arith, counts))) in
      let size : length (six_at k widths) ≡ 6 = ap length (six_of a k h) ∙ pattern_length before (below a k h) in
      omega (arith, sum_of_set (six_at k widths) r x (omega arith), sym (ap sum e) ∙ new)

-- a right symbol's characters before the stop
abbrev pub before_stop : {widths message : List ℕ} → IsSymbol widths message → List ℕ
before_stop s = (s.start ∷ 102 ∷ s.values) ++ (check_of s.start (102 ∷ s.values) ∷ [])

pub drawn_from : {widths message : List ℕ} (s : IsSymbol widths message) → IsDrawnFrom widths (before_stop s)
unfolding symbol_of
drawn_from s = record {
  checked = record {
    start = s.start;
    values = 102 ∷ s.values;
    least_start = s.least_start;
    most_start = s.most_start;
    most = omega (arith, s.most);
    allowed = below_more 103 102 s.values (omega arith) s.allowed;
    whole = refl;
  };
  is = s.drawn;
}

pub below_stop : {widths message : List ℕ} (s : IsSymbol widths message) → Below 106 (before_stop s)
below_stop s = checked_below (drawn_from s).checked
