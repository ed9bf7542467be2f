-- A list of the 107 characters that ends with the stop, drawn after a damage to it: with another character of six widths, or two exchanged,
-- it is drawn from the characters' own table as before; where six widths become seven, or seven six, the count of widths is even.
use Prim.Native.Nat.{ℕ, zero, suc, ◌+◌, ◌*◌, ◌%◌, ◌<◌}
use mathlib.Core.Path.{◌≡◌, sym, ap, ap₂, ◌∙◌}
use mathlib.Core.Logic.{◌≢◌, ◌⊎◌, inl, inr}
use mathlib.Core.List.{List, [], ◌∷◌, ◌++◌, append_assoc}
use native.Mathlib.Nat.{not-suc-le-zero, le_of_suc-le-suc}
use native.Mathlib.Decide.{dec_lt}
use native.Mathlib.Omega.{arith}
use lib.ListN.{length, get_or, set, length-append, get_or-append}
use lib.Seq.{set-append_left, get_or_at}
use Rattle.laws.specs.Below.{Below}
use Rattle.laws.proofs.BelowLaws.{below_first, below_rest, below_set, below_exchanged}
use Rattle.laws.specs.Exchanged.{exchanged}
use Rattle.laws.proofs.ExchangedLaws.{exchanged_append}
use Rattle.patterns.specs.Patterns.{drawn}
use Rattle.code128.specs.Characters.{patterns, stop}
use Rattle.code128.proofs.PatternLaws.{patterns_are, pattern_length}
use Rattle.damage.specs.Damage.{all_patterns}
use Rattle.gs1_128.proofs.DrawnLaws.{length_stopped}

-- the rows of the 107
row_of : (v : ℕ) → v < 106 → get_or all_patterns v [] ≡ get_or patterns v []
row_of v h = get_or-append patterns _ [] v (rw patterns_are h)

row_of_stop : get_or all_patterns 106 [] ≡ stop
row_of_stop = get_or_at patterns stop [] [] 106 patterns_are

length_of_row : (v : ℕ) → v < 106 → length (get_or all_patterns v []) ≡ 6
length_of_row v h = ap length (row_of v h) ∙ pattern_length v h

-- with the stop last, what is drawn of the 107 is what is drawn of the 106, and the stop
pub drawn_with_stop : (xs : List ℕ) → Below 106 xs → drawn all_patterns (xs ++ (106 ∷ [])) ≡ drawn patterns xs ++ stop
unfolding drawn
drawn_with_stop [] below = ap (λ (row : List ℕ). row ++ []) row_of_stop
drawn_with_stop (x ∷ xs) below =
    ap₂ (λ (row rest : List ℕ). row ++ rest) (row_of x (below_first 106 x xs below)) (drawn_with_stop xs (below_rest 106 x xs below))
    ∙ sym (append_assoc (get_or patterns x []) (drawn patterns xs) stop)

-- the count of widths changes as the size of the character does
length_of_replaced : (xs : List ℕ) (k c : ℕ) → k < length xs → length (drawn all_patterns (set xs k c)) + length (get_or all_patterns (get_or xs k 0) []) ≡ length (drawn all_patterns xs) + length (get_or all_patterns c [])
unfolding drawn
length_of_replaced [] k c h = absurd (not-suc-le-zero h)
length_of_replaced (x ∷ xs) zero c h = omega (arith, length-append (get_or all_patterns x []) (drawn all_patterns xs), length-append (get_or all_patterns c []) (drawn all_patterns xs))
length_of_replaced (x ∷ xs) (suc k) c h = omega (arith, length-append (get_or all_patterns x []) (drawn all_patterns xs), length-append (get_or all_patterns x []) (drawn all_patterns (set xs k c)), length_of_replaced xs k c (le_of_suc-le-suc h))

-- of characters before a stop
module _ (xs : List ℕ) (below : Below 106 xs) where
  abbrev full : List ℕ
  full = xs ++ (106 ∷ [])

  length_full : length full ≡ length xs + 1
  length_full = length-append xs (106 ∷ [])

  -- one replaced by another of six widths
  pub replaced_by_six : (k c : ℕ) → k < length xs → c < 106 → drawn all_patterns (set full k c) ≡ drawn patterns (set xs k c) ++ stop
  replaced_by_six k c h l = ap (drawn all_patterns) (set-append_left xs (106 ∷ []) k c h) ∙ drawn_with_stop (set xs k c) (below_set 106 xs k c below l)

  -- six widths for seven, or seven for six, leave an even count
  pub replaced_apart : (k c : ℕ) → k < length full → c < 107 → c ≢ get_or full k 0 → ((k < length xs) × (c < 106)) ⊎ (length (drawn all_patterns (set full k c)) % 2 ≡ 0)
  replaced_apart k c h l other = go (dec_lt k (length xs)) (dec_lt c 106)
    where
      counts : length (drawn all_patterns (set full k c)) + length (get_or all_patterns (get_or full k 0) []) ≡ (6 * length xs + 7) + length (get_or all_patterns c [])
      counts = length_of_replaced full k c h ∙ ap (λ (n : ℕ). n + length (get_or all_patterns c [])) (ap length (drawn_with_stop xs below) ∙ length_stopped xs below)

      seven : (v : ℕ) → v ≡ 106 → length (get_or all_patterns v []) ≡ 7
      seven v e = ap (λ (w : ℕ). length (get_or all_patterns w [])) e ∙ ap length row_of_stop

      last : (k < length xs → ⊥) → get_or full k 0 ≡ 106
      last past = get_or_at xs 106 [] 0 k (omega (arith, length_full))

      go : Dec (k < length xs) → Dec (c < 106) → ((k < length xs) × (c < 106)) ⊎ (length (drawn all_patterns (set full k c)) % 2 ≡ 0)
      go (yes inside) (yes six) = inl (inside, six)
      go (yes inside) (no stops) =
          let old : get_or full k 0 < 106 = rw (get_or-append xs (106 ∷ []) 0 k inside) (below k inside) in
          inr (omega (arith, counts, seven c (omega arith), length_of_row (get_or full k 0) old))
      go (no past) (yes six) = inr (omega (arith, counts, length_of_row c six, seven (get_or full k 0) (last past)))
      go (no past) (no stops) = absurd (other (omega (arith, last past)))

  -- two neighbours exchanged
  pub exchanged_drawn : (k : ℕ) → suc k < length xs → drawn all_patterns (exchanged k full) ≡ drawn patterns (exchanged k xs) ++ stop
  exchanged_drawn k h =
      ap (drawn all_patterns) (exchanged_append k xs (106 ∷ []) h)
      ∙ drawn_with_stop (exchanged k xs) (below_exchanged 106 k xs h below)
