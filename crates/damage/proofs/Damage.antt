-- Theorem 6 of the design, demand 3: a right symbol that was damaged once is a right symbol no more. A character replaced, or two exchanged,
-- leave a wrong check or count; a changed width leaves a character that doesn't sum to 11; so does an edge between two characters, and one
-- within a character replaces it.
use Prim.Native.Nat.{ℕ, suc, ◌+◌, ◌-◌, ◌/◌, ◌%◌, ◌≤◌, ◌<◌}
use mathlib.Core.Path.{◌≡◌, sym, ap, ◌∙◌}
use mathlib.Core.Logic.{◌≢◌, ◌⊎◌, inl, inr}
use mathlib.Core.List.{List, [], ◌∷◌, ◌++◌}
use native.Mathlib.Decide.{dec_lt, ℕ_discrete}
use native.Mathlib.Omega.{arith}
use lib.ListN.{length, get_or, set, length-append, length-set, get_or-append}
use lib.Seq.{get_or-set_same, get_or-set_other}
use Rattle.laws.specs.Below.{Below}
use Rattle.laws.proofs.BelowLaws.{below_set, below_exchanged}
use Rattle.laws.specs.Exchanged.{exchanged}
use Rattle.refusal.specs.declared.Refusal.{Refusal}
use Rattle.refusal.specs.Outcome.{refused}
use Rattle.refusal.proofs.OutcomeLaws.{refused_unless_made}
use Rattle.patterns.specs.Patterns.{drawn}
use Rattle.code128.specs.Characters.{patterns, stop}
use Rattle.gs1_128.specs.Rules.{message_in, reads}
use Rattle.gs1_128.specs.Right.{IsSymbol}
use Rattle.damage.specs.Damage.{all_patterns, characters_of, set_both, Damaged, character_replaced, neighbours_exchanged, edge_moved, width_changed}
use Rattle.gs1_128.proofs.Theorems.{read_as_symbol, call_reads_symbol}
use Rattle.gs1_128.proofs.CheckedLaws.{one_place, one_exchange}
use Rattle.damage.proofs.DamageLaws.{IsDrawnFrom, before_stop, drawn_from, below_stop, six_elsewhere, six_inside, six_has, length_of_drawn_from, drawn_once, one_character, one_width}
use Rattle.damage.proofs.RedrawnLaws.{drawn_with_stop, replaced_by_six, replaced_apart, exchanged_drawn}

-- the drawn characters are the symbol's widths
pub drawn_of_characters : {widths message : List ℕ} (s : IsSymbol widths message) → drawn all_patterns (characters_of s) ≡ widths
drawn_of_characters s = drawn_with_stop (before_stop s) (below_stop s) ∙ sym (drawn_from s).is

-- an inner edge that goes d modules to the right, or to the left, is an edge moved
pub edge_to_right : {widths message : List ℕ} (s : IsSymbol widths message) (i d : ℕ) → suc i < length widths → 1 ≤ d → d ≤ get_or widths (suc i) 0 → Damaged s (set_both widths i (get_or widths i 0 + d) (get_or widths (suc i) 0 - d))
edge_to_right {widths} s i d h some room = edge_moved i (get_or widths i 0 + d) (get_or widths (suc i) 0 - d) h (omega arith) (omega arith)

pub edge_to_left : {widths message : List ℕ} (s : IsSymbol widths message) (i d : ℕ) → suc i < length widths → 1 ≤ d → d ≤ get_or widths i 0 → Damaged s (set_both widths i (get_or widths i 0 - d) (get_or widths (suc i) 0 + d))
edge_to_left {widths} s i d h some room = edge_moved i (get_or widths i 0 - d) (get_or widths (suc i) 0 + d) h (omega arith) (omega arith)

-- the characters of a right symbol are those that it can be drawn from
same_characters : {widths message : List ℕ} (s : IsSymbol widths message) (characters : List ℕ) → Below 106 characters → widths ≡ drawn patterns characters ++ stop → before_stop s ≡ characters
same_characters s characters below e = drawn_once (before_stop s) characters (below_stop s) below (sym (drawn_from s).is ∙ e)

-- of a right symbol
module _ {widths message : List ℕ} (s : IsSymbol widths message) where
  abbrev xs : List ℕ
  xs = before_stop s

  abbrev a : IsDrawnFrom widths xs
  a = drawn_from s

  -- with one character replaced it isn't one, ..
  replaced_is_none : {message' : List ℕ} (k c : ℕ) → k < length (characters_of s) → c < 107 → c ≢ get_or (characters_of s) k 0 → IsSymbol (drawn all_patterns (set (characters_of s) k c)) message' → ⊥
  replaced_is_none k c h l other s' = go (replaced_apart xs (below_stop s) k c h l other)
    where
      go : ((k < length xs) × (c < 106)) ⊎ (length (drawn all_patterns (set (characters_of s) k c)) % 2 ≡ 0) → ⊥
      go (inl both) =
          let damaged = set xs k c in
          let is : before_stop s' ≡ damaged = same_characters s' damaged (below_set 106 xs k c (below_stop s) both.1) (replaced_by_six xs (below_stop s) k c both.0 both.1) in
          let equal : xs ≡ before_stop s' = one_place a.checked (drawn_from s').checked (sym (ap length is ∙ length-set xs k c)) k (λ j i apart. sym (ap (λ (zs : List ℕ). get_or zs j 0) is ∙ get_or-set_other xs k j c 0 apart)) in
          let now : get_or xs k 0 ≡ c = ap (λ (zs : List ℕ). get_or zs k 0) (equal ∙ is) ∙ get_or-set_same xs k c 0 both.0 in
          other (sym (get_or-append xs (106 ∷ []) 0 k both.0 ∙ now))
      go (inr even) = omega (arith, length_of_drawn_from (drawn_from s'))

  -- .. nor with two unequal neighbours exchanged, ..
  exchanged_is_none : {message' : List ℕ} (k : ℕ) → 1 ≤ k → k + 2 < length (characters_of s) → get_or (characters_of s) k 0 ≢ get_or (characters_of s) (suc k) 0 → IsSymbol (drawn all_patterns (exchanged k (characters_of s))) message' → ⊥
  exchanged_is_none k least h unequal s' =
      let inside : suc k < length xs = omega (arith, length-append xs (106 ∷ [])) in
      let is : before_stop s' ≡ exchanged k xs = same_characters s' (exchanged k xs) (below_exchanged 106 k xs inside (below_stop s)) (exchanged_drawn xs (below_stop s) k inside) in
      unequal
      (get_or-append xs (106 ∷ []) 0 k (omega arith)
      ∙ one_exchange a.checked (drawn_from s').checked k least inside is
      ∙ sym (get_or-append xs (106 ∷ []) 0 (suc k) inside))

  -- .. nor with one width changed, ..
  changed_is_none : {message' : List ℕ} (i x : ℕ) → i < length widths → x ≢ get_or widths i 0 → IsSymbol (set widths i x) message' → ⊥
  changed_is_none i x h other s' = other (go (dec_lt (i / 6) (length xs)))
    where
      go : Dec (i / 6 < length xs) → x ≡ get_or widths i 0
      go (yes inside) = sym (one_width a (drawn_from s') (length-set widths i x) (i / 6) (i % 6) x inside (omega arith) (six_inside widths i x)) ∙ six_has widths i
      go (no past) =
          let equal = one_character a (drawn_from s') (length-set widths i x) (i / 6) (λ j l apart. six_elsewhere j widths i x (omega arith)) in
          sym (get_or-set_same widths i x 0 h) ∙ ap (λ (zs : List ℕ). get_or zs i 0) equal

  -- .. nor with one inner edge moved, whatever width it leaves on its right
  moved_is_none : {message' : List ℕ} (i x y : ℕ) → suc i < length widths → x ≢ get_or widths i 0 → IsSymbol (set_both widths i x y) message' → ⊥
  moved_is_none i x y h other s' = other (go (dec_lt (i / 6) (length xs)) (ℕ_discrete (suc i / 6) (i / 6)))
    where
      size : length (set_both widths i x y) ≡ length widths
      size = length-set (set widths i x) (suc i) y ∙ length-set widths i x

      -- both widths in one character, or in the stop
      together : ((j : ℕ) → j < length xs → j ≢ i / 6 → suc i / 6 ≢ j) → x ≡ get_or widths i 0
      together apart =
          let equal = one_character a (drawn_from s') size (i / 6) (λ j l away. six_elsewhere j (set widths i x) (suc i) y (apart j l away) ∙ six_elsewhere j widths i x (omega arith)) in
          sym (get_or-set_other (set widths i x) (suc i) i y 0 (omega arith) ∙ get_or-set_same widths i x 0 (omega arith)) ∙ ap (λ (zs : List ℕ). get_or zs i 0) equal

      go : Dec (i / 6 < length xs) → Dec (suc i / 6 ≡ i / 6) → x ≡ get_or widths i 0
      go (yes inside) (yes one) = together (λ j l away. omega arith)
      go (yes inside) (no two) =
          sym
          (one_width a (drawn_from s') size (i / 6) (i % 6) x inside (omega arith)
          (six_elsewhere (i / 6) (set widths i x) (suc i) y two ∙ six_inside widths i x))
          ∙ six_has widths i
      go (no past) either = together (λ j l away. omega arith)

-- each kind of damage
none_is_left : {widths message : List ℕ} (s : IsSymbol widths message) {damaged : List ℕ} → Damaged s damaged → (message' : List ℕ) → IsSymbol damaged message' → ⊥
none_is_left s (character_replaced k c h l other) message' s' = replaced_is_none s k c h l other s'
none_is_left s (neighbours_exchanged k least h unequal) message' s' = exchanged_is_none s k least h unequal s'
none_is_left s (edge_moved i x y h shared other) message' s' = moved_is_none s i x y h other s'
none_is_left s (width_changed i x h other) message' s' = changed_is_none s i x h other s'

-- Theorem 6: a right symbol, damaged once, is a right symbol of no message, ..
pub damaged_is_none : {widths message damaged : List ℕ} (s : IsSymbol widths message) → Damaged s damaged → (message' : List ℕ) → IsSymbol damaged message' → ⊥
damaged_is_none s d message' s' = none_is_left s d message' s'

-- .. so no message is found in it, ..
pub damaged_is_refused : {widths message damaged : List ℕ} (s : IsSymbol widths message) → Damaged s damaged → (f : Refusal) × (message_in damaged ≡ refused f)
damaged_is_refused {damaged = damaged} s d =
    refused_unless_made (message_in damaged) (λ message' e. damaged_is_none s d message' ((read_as_symbol damaged message').0 e))

-- .. and the call refuses it, whatever room it is lent
pub call_refuses_damaged : {widths message damaged : List ℕ} (s : IsSymbol widths message) → Damaged s damaged → (room : ℕ) → (f : Refusal) × (reads damaged room ≡ refused f)
call_refuses_damaged {damaged = damaged} s d room =
    refused_unless_made (reads damaged room) (λ message' e. damaged_is_none s d message' ((call_reads_symbol damaged message' room).0 e).0)
