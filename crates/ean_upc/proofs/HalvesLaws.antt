-- Two halves between their guards, there and back: each part stands where the ones before it end, so the scan of what was drawn gives the
-- values again; and the parts of a guarded list make it, so the values that were scanned draw the list.
use Prim.Native.Nat.{ℕ, ◌+◌, ◌*◌}
use mathlib.Core.Path.{◌≡◌, sym, ap, ap₂, ◌∙◌, subst}
use mathlib.Core.Bool.{true, ◌&&◌}
use mathlib.Core.List.{List, ◌++◌, append_assoc}
use native.Mathlib.Omega.{arith}
use lib.ListN.{length, take, drop, length-append, take-append-drop}
use lib.Seq.{take_at, drop_at, drop-drop, take-add}
use lib.Dec.{T, eqb}
use borrow.Author.Tests.{eq-eqb}
use Rattle.laws.specs.Below.{Below}
use Rattle.laws.proofs.BelowLaws.{below_append}
use Rattle.laws.proofs.Booleans.{both_hold}
use Rattle.refusal.specs.declared.Refusal.TheVariants.{Count, Guard}
use Rattle.refusal.specs.Outcome.{made}
use Rattle.refusal.proofs.OutcomeLaws.{made_same, must_made, bind_made}
use Rattle.patterns.specs.Patterns.{same, drawn, characters}
use Rattle.patterns.proofs.PatternLaws.{same_true, same_refl}
use Rattle.patterns.proofs.CharacterLaws.{characters_of_drawn, drawn_of_characters}
use Rattle.patterns.proofs.DrawnBelow.{all_small, row_below, drawn_below}
use Rattle.ean_upc.specs.declared.tables.Sets.{Sets}
use Rattle.ean_upc.specs.declared.tables.Sets.TheVariants.{A, AOrB, C}
use Rattle.ean_upc.specs.Tables.{set_c, guard, centre}
use Rattle.ean_upc.specs.Halves.{patterns_of, halves_drawn, guarded, halves_in}
use Rattle.ean_upc.proofs.SetLaws.{distinct_sets, sized_sets, length_of_half}

-- of the halves' widths, m in each
abbrev framed : List ℕ → List ℕ → List ℕ
framed left right = guard ++ left ++ centre ++ right ++ guard

module _ (left right : List ℕ) (m : ℕ) (left-long : length left ≡ m) (right_long : length right ≡ m) where
  framed_left : drop 3 (framed left right) ≡ left ++ (centre ++ (right ++ guard))
  framed_left = append_assoc (left ++ centre) right guard ∙ append_assoc left centre (right ++ guard)

  framed_centre : drop (3 + m) (framed left right) ≡ centre ++ (right ++ guard)
  framed_centre = sym (drop-drop m 3 (framed left right)) ∙ ap (drop m) framed_left ∙ drop_at left (centre ++ (right ++ guard)) m left-long

  framed_right : drop (3 + m + 5) (framed left right) ≡ right ++ guard
  framed_right = sym (drop-drop 5 (3 + m) (framed left right)) ∙ ap (drop 5) framed_centre

  framed_end : drop (3 + m + 5 + m) (framed left right) ≡ guard
  framed_end = sym (drop-drop m (3 + m + 5) (framed left right)) ∙ ap (drop m) framed_right ∙ drop_at right guard m right_long

framed_again : (widths : List ℕ) (m : ℕ) → take 3 widths ≡ guard → take 5 (drop (3 + m) widths) ≡ centre → drop (3 + m + 5 + m) widths ≡ guard
    → framed (take m (drop 3 widths)) (take m (drop (3 + m + 5) widths)) ≡ widths
framed_again widths m first middle last =
    let left = take m (drop 3 widths) in
    let right = take m (drop (3 + m + 5) widths) in
    ap₂ (λ (start end : List ℕ). start ++ left ++ centre ++ right ++ end) (sym first) (sym last)
    ∙ ap (λ (between : List ℕ). take 3 widths ++ left ++ between ++ right ++ drop (3 + m + 5 + m) widths) (sym middle)
    ∙ (rw (← take-add 3 m widths, ← take-add (3 + m) 5 widths, ← take-add (3 + m + 5) m widths) (take-append-drop (3 + m + 5 + m) widths))

module _ (sets : Sets) (n : ℕ) (left right : List ℕ) (left-long : length left ≡ n) (right_long : length right ≡ n) (left_below : Below (length (patterns_of sets)) left) (right_below : Below 10 right) where
  abbrev left_bars : List ℕ
  left_bars = drawn (patterns_of sets) left

  abbrev right_bars : List ℕ
  right_bars = drawn set_c right

  left_bars_lem : length left_bars ≡ 4 * n
  left_bars_lem = length_of_half sets left left_below ∙ ap (λ (k : ℕ). 4 * k) left-long

  right_bars_lem : length right_bars ≡ 4 * n
  right_bars_lem = length_of_half C right right_below ∙ ap (λ (k : ℕ). 4 * k) right_long

  pub length_of_drawn : length (halves_drawn sets left right) ≡ 3 + 4 * n + 5 + 4 * n + 3
  unfolding halves_drawn
  length_of_drawn = simp length-append (omega (arith, left_bars_lem, right_bars_lem))

  left_scanned : characters (patterns_of sets) 4 n 0 (drop 3 (framed left_bars right_bars)) ≡ made left
  left_scanned =
      rw (framed_left left_bars right_bars (4 * n) left_bars_lem right_bars_lem, ← left-long)
      (characters_of_drawn (patterns_of sets) 4 (sized_sets sets) (distinct_sets sets) left left_below 0 (centre ++ (right_bars ++ guard)))

  right_scanned : characters set_c 4 n n (drop (3 + 4 * n + 5) (framed left_bars right_bars)) ≡ made right
  right_scanned =
      rw (framed_right left_bars right_bars (4 * n) left_bars_lem right_bars_lem)
      (subst (λ (k : ℕ). characters set_c 4 k n (right_bars ++ guard) ≡ made right) right_long
      (characters_of_drawn set_c 4 (sized_sets C) (distinct_sets C) right right_below n guard))

  guards : guarded n (framed left_bars right_bars) ≡ true
  unfolding guarded
  guards = rw (framed_centre left_bars right_bars (4 * n) left_bars_lem right_bars_lem, framed_end left_bars right_bars (4 * n) left_bars_lem right_bars_lem, same_refl guard, same_refl centre)

  pub halves_of_drawn : halves_in sets n (halves_drawn sets left right) ≡ made (left ++ right)
  unfolding halves_in halves_drawn
  halves_of_drawn = rw (eq-eqb (length (framed left_bars right_bars)) _ length_of_drawn, guards, left_scanned, right_scanned)

-- what is known of values that were scanned
pub record Halves (sets : Sets) (n : ℕ) (widths values : List ℕ) : Type 0 where
  pub drawn_again : halves_drawn sets (take n values) (drop n values) ≡ widths
  pub counted : length values ≡ n + n
  pub left_below : Below (length (patterns_of sets)) (take n values)
  pub right_below : Below 10 (drop n values)

pub drawn_of_halves : (sets : Sets) (n : ℕ) (widths values : List ℕ) → halves_in sets n widths ≡ made values → Halves sets n widths values
unfolding halves_in halves_drawn guarded
drawn_of_halves sets n widths values e =
    let a = must_made (eqb (length widths) (3 + 4 * n + 5 + 4 * n + 3)) Count _ values e in
    let b = must_made (guarded n widths) Guard _ values a.1 in
    let l = bind_made (characters (patterns_of sets) 4 n 0 (drop 3 widths)) _ values b.1 in
    let r = bind_made (characters set_c 4 n n (drop (3 + 4 * n + 5) widths)) _ values l.2 in
    let left = drawn_of_characters (patterns_of sets) 4 n 0 (drop 3 widths) l.0 l.1 in
    let right = drawn_of_characters set_c 4 n n (drop (3 + 4 * n + 5) widths) r.0 r.1 in
    let start = same (take 3 widths) guard in
    let middle = same (take 5 (drop (3 + 4 * n) widths)) centre in
    let all = both_hold (start && middle) (same (drop (3 + 4 * n + 5 + 4 * n) widths) guard) b.0 in
    let two = both_hold start middle all.0 in
    let values_are : l.0 ++ r.0 ≡ values = made_same _ values r.2 in
    let front : take n values ≡ l.0 = ap (take n) (sym values_are) ∙ take_at l.0 r.0 n left.0 in
    let back : drop n values ≡ r.0 = ap (drop n) (sym values_are) ∙ drop_at l.0 r.0 n left.0 in
    record {
      drawn_again =
          ap₂ framed (ap (drawn (patterns_of sets)) front ∙ left.1) (ap (drawn set_c) back ∙ right.1)
          ∙ framed_again widths (4 * n) (same_true _ guard two.0) (same_true _ centre two.1) (same_true _ guard all.1);
      counted = ap length (sym values_are) ∙ length-append l.0 r.0 ∙ ap₂ (λ (i j : ℕ). i + j) left.0 right.0;
      left_below = subst (Below (length (patterns_of sets))) (sym front) left.2;
      right_below = subst (Below 10) (sym back) right.2;
    }

small_sets : (sets : Sets) → T (all_small 10 (patterns_of sets))
small_sets A = tt
small_sets AOrB = tt
small_sets C = tt

-- every width has one digit
pub widths_below : (sets : Sets) (left right : List ℕ) → Below 10 (halves_drawn sets left right)
unfolding halves_drawn
widths_below sets left right =
    let left_bars = drawn (patterns_of sets) left in
    let right_bars = drawn set_c right in
    below_append 10 (guard ++ left_bars ++ centre ++ right_bars) guard
    (below_append 10 (guard ++ left_bars ++ centre) right_bars
    (below_append 10 (guard ++ left_bars) centre
    (below_append 10 guard left_bars (row_below 10 guard tt) (drawn_below 10 (patterns_of sets) (small_sets sets) left))
    (row_below 10 centre tt))
    (drawn_below 10 set_c (small_sets C) right))
    (row_below 10 guard tt)
