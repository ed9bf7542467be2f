-- What the reader of an unnamed list needs of a damaged symbol: its count is the symbol's own or even, so it is none of 33, 59 and 77; and of
-- its first and last widths, which were both 2, one still is, so 43 widths that have come to begin with 1 don't end like an EAN-8.
use Prim.Native.Nat.{ℕ, suc, ◌+◌, ◌-◌, ◌*◌, ◌%◌, ◌≤◌, ◌<◌}
use mathlib.Core.Path.{◌≡◌, sym, ap, ◌∙◌}
use mathlib.Core.Logic.{◌≢◌, ◌⊎◌, inl, inr}
use mathlib.Core.List.{List, [], ◌∷◌, ◌++◌}
use native.Mathlib.Decide.{ℕ_discrete}
use native.Mathlib.Omega.{arith}
use lib.ListN.{length, get_or, set, drop, length-append, length-set}
use lib.Seq.{get_or-drop, get_or-set_other, get_or-append-add}
use lib.Dec.{T, eqb, eqb→eq}
use Rattle.laws.specs.Below.{Below}
use Rattle.laws.proofs.BelowLaws.{below_set, below_exchanged}
use Rattle.laws.specs.Exchanged.{exchanged}
use Rattle.laws.proofs.ExchangedLaws.{length_exchanged}
use Rattle.laws.proofs.Tables.{every, at_entry}
use Rattle.patterns.specs.Patterns.{drawn}
use Rattle.code128.specs.Characters.{patterns, stop}
use Rattle.gs1_128.specs.Symbol.{starts}
use Rattle.gs1_128.specs.Right.{IsSymbol}
use Rattle.damage.specs.Damage.{all_patterns, characters_of, set_both, Damaged, character_replaced, neighbours_exchanged, edge_moved, width_changed}
use Rattle.gs1_128.proofs.TableLaws.{starts_are}
use Rattle.gs1_128.proofs.DrawnLaws.{length_drawn, length_stopped}
use Rattle.damage.proofs.DamageLaws.{before_stop, drawn_from, below_stop, six_of, six_has, length_of_drawn_from}
use Rattle.damage.proofs.RedrawnLaws.{replaced_by_six, replaced_apart, exchanged_drawn}

-- every start begins with 2, and the stop ends with it
starts_begin : T (every (λ (k : ℕ) (pattern : List ℕ). eqb (get_or pattern 0 0) 2) starts)
unfolding patterns
starts_begin = tt

start_begins : (start : ℕ) → 103 ≤ start → start ≤ 105 → get_or (get_or patterns start []) 0 0 ≡ 2
start_begins start least most =
    let at : 103 + (start - 103) ≡ start = omega arith in
    ap (λ (v : ℕ). get_or (get_or patterns v []) 0 0) (sym at)
    ∙ ap (λ (pattern : List ℕ). get_or pattern 0 0) (sym (get_or-drop 103 patterns (start - 103) []))
    ∙ eqb→eq _ 2 (at_entry (λ (k : ℕ) (pattern : List ℕ). eqb (get_or pattern 0 0) 2) [] starts starts_begin (start - 103) (rw starts_are (omega arith)))

drawn_ends : (characters : List ℕ) → Below 106 characters → get_or (drawn patterns characters ++ stop) (6 * length characters + 6) 0 ≡ 2
drawn_ends characters below =
    let at : 6 * length characters + 6 ≡ length (drawn patterns characters) + 6 = omega (arith, length_drawn characters below) in
    ap (λ (n : ℕ). get_or (drawn patterns characters ++ stop) n 0) at ∙ get_or-append-add (drawn patterns characters) stop 6 0

module _ {widths message : List ℕ} (s : IsSymbol widths message) where
  abbrev xs : List ℕ
  xs = before_stop s

  size : length widths ≡ 6 * length xs + 7
  size = length_of_drawn_from (drawn_from s)

  begins : get_or widths 0 0 ≡ 2
  begins = sym (six_has widths 0) ∙ ap (λ (six : List ℕ). get_or six 0 0) (six_of (drawn_from s) 0 (omega arith)) ∙ start_begins s.start s.least_start s.most_start

  ends : get_or widths (6 * length xs + 6) 0 ≡ 2
  ends = ap (λ (zs : List ℕ). get_or zs (6 * length xs + 6) 0) (drawn_from s).is ∙ drawn_ends xs (below_stop s)

  -- characters as many as the symbol's, drawn before the stop
  redrawn : (damaged characters : List ℕ) → Below 106 characters → length characters ≡ length xs → damaged ≡ drawn patterns characters ++ stop → (length damaged ≡ length widths) × (get_or damaged (6 * length xs + 6) 0 ≡ 2)
  redrawn damaged characters below count is = (
    ap length is ∙ length_stopped characters below ∙ omega (arith, size),
    ap (λ (n : ℕ). get_or damaged (6 * n + 6) 0) (sym count) ∙ ap (λ (zs : List ℕ). get_or zs (6 * length characters + 6) 0) is ∙ drawn_ends characters below,
  )

  -- the count is even, or it is the symbol's and the first width is still 2 or the last is
  abbrev Kept : List ℕ → Type 0
  Kept damaged = (length damaged % 2 ≡ 0) ⊎ ((length damaged ≡ length widths) × ((get_or damaged 0 0 ≡ 2) ⊎ (get_or damaged (6 * length xs + 6) 0 ≡ 2)))

  kept : {damaged : List ℕ} → Damaged s damaged → Kept damaged
  kept (character_replaced k c h l other) = go (replaced_apart xs (below_stop s) k c h l other)
    where
      go : ((k < length xs) × (c < 106)) ⊎ (length (drawn all_patterns (set (characters_of s) k c)) % 2 ≡ 0) → Kept (drawn all_patterns (set (characters_of s) k c))
      go (inl both) =
          let again = redrawn (drawn all_patterns (set (characters_of s) k c)) (set xs k c) (below_set 106 xs k c (below_stop s) both.1) (length-set xs k c) (replaced_by_six xs (below_stop s) k c both.0 both.1) in
          inr (again.0, inr again.1)
      go (inr even) = inl even
  kept (neighbours_exchanged k least h unequal) =
      let inside : suc k < length xs = omega (arith, length-append xs (106 ∷ [])) in
      let again = redrawn _ (exchanged k xs) (below_exchanged 106 k xs inside (below_stop s)) (length_exchanged k xs) (exchanged_drawn xs (below_stop s) k inside) in
      inr (again.0, inr again.1)
  kept (edge_moved i x y h shared other) = inr (length-set (set widths i x) (suc i) y ∙ length-set widths i x, go (ℕ_discrete i 0))
    where
      untouched : (j : ℕ) → j ≢ i → j ≢ suc i → get_or (set_both widths i x y) j 0 ≡ get_or widths j 0
      untouched j first second = get_or-set_other (set widths i x) (suc i) j y 0 second ∙ get_or-set_other widths i j x 0 first

      go : Dec (i ≡ 0) → (get_or (set_both widths i x y) 0 0 ≡ 2) ⊎ (get_or (set_both widths i x y) (6 * length xs + 6) 0 ≡ 2)
      go (yes is) = inr (untouched (6 * length xs + 6) (omega arith) (omega arith) ∙ ends)
      go (no past) = inl (untouched 0 (omega arith) (omega arith) ∙ begins)
  kept (width_changed i x h other) = inr (length-set widths i x, go (ℕ_discrete i 0))
    where
      go : Dec (i ≡ 0) → (get_or (set widths i x) 0 0 ≡ 2) ⊎ (get_or (set widths i x) (6 * length xs + 6) 0 ≡ 2)
      go (yes is) = inr (get_or-set_other widths i (6 * length xs + 6) x 0 (omega arith) ∙ ends)
      go (no past) = inl (get_or-set_other widths i 0 x 0 (omega arith) ∙ begins)

-- "59 widths", "33 widths", "77 widths": a damaged symbol goes to none of these readers
pub damaged_count : {widths message damaged : List ℕ} (s : IsSymbol widths message) → Damaged s damaged → (length damaged ≢ 59) × (length damaged ≢ 33) × (length damaged ≢ 77)
damaged_count {damaged = damaged} s d = go (kept s d)
  where
    go : Kept s damaged → (length damaged ≢ 59) × (length damaged ≢ 33) × (length damaged ≢ 77)
    go (inl even) = omega arith
    go (inr same) = omega (arith, size s)

-- "43 is EAN-8 if the first width is 1": then its last guard isn't there
pub damaged_guard : {widths message damaged : List ℕ} (s : IsSymbol widths message) → Damaged s damaged → length damaged ≡ 43 → get_or damaged 0 0 ≡ 1 → drop 40 damaged ≡ 1 ∷ 1 ∷ 1 ∷ [] → ⊥
damaged_guard {damaged = damaged} s d count first guard = go (kept s d)
  where
    last : get_or damaged 42 0 ≡ 1
    last = sym (get_or-drop 40 damaged 2 0) ∙ ap (λ (zs : List ℕ). get_or zs 2 0) guard

    go : Kept s damaged → ⊥
    go (inl even) = omega arith
    go (inr same) = still same.1
      where
        still : (get_or damaged 0 0 ≡ 2) ⊎ (get_or damaged (6 * length (before_stop s) + 6) 0 ≡ 2) → ⊥
        still (inl begins-2) = omega arith
        still (inr ends-2) =
            let at : 6 * length (before_stop s) + 6 ≡ 42 = omega (arith, size s, same.0) in
            omega (arith, last, rw at at ends-2)
