-- A state tells the truth of the text ahead: by induction on the text, a byte more moves the lead and the reach as the tables say, and the
-- lengths that they stand for decide which spelling is better.
use Prim.Native.Nat.{ℕ, ◌+◌, ◌-◌, ◌≤◌, ◌<◌}
use mathlib.Core.Path.{◌≡◌, refl, sym, ap, ◌∙◌}
use mathlib.Core.Bool.{Bool, true, false, cond, ◌&&◌}
use mathlib.Core.List.{List, [], ◌∷◌}
use native.Mathlib.Numerals.{add-one}
use native.Mathlib.Omega.{arith}
use lib.ListN.{length, get_or, drop}
use lib.Seq.{drop-cons}
use lib.Dec.{eqb, ltb, leb, eqb→eq, leb→le}
use borrow.Author.Tests.{lt-ltb, le-ltb, eq-eqb, eqb-true, eqb-false, ne_eqb, ltb-true, ltb-false}
use Rattle.laws.proofs.Tables.{at_entry}
use Rattle.digits.specs.Digit.{is_digit}
use Rattle.digits.proofs.DigitLaws.{digit_range}
use Rattle.character_set_82.specs.Characters.{separator}
use Rattle.spelling.specs.Best.{value_b, bests, best_spelling, from_b, from_c}
use Rattle.spelling.specs.States.{from, leads, reaches, way_of, at_digit, at_separator, state_at, state_of, starts_in_c}
use Rattle.spelling.proofs.BestLaws.{pair_of}
use Rattle.spelling.proofs.ChoiceLaws.{separator_in_b, separator_to_c, separator_in_c, separator_to_b, pair_in_b, pair_to_c, pair_in_c, other_in_b, other_in_c, start_in_b, start_in_c}

abbrev lead_of : ℕ → ℕ
lead_of s = get_or leads s 0

abbrev reach_of : ℕ → ℕ
reach_of s = get_or reaches s 0

-- what the rows of the tables say of one another, each a test that is computed over a table
module _ (s : ℕ) (h : s < 16) where
  lead_most : lead_of s ≤ 2
  lead_most = leb→le _ 2 (at_entry (λ (k lead : ℕ). leb lead 2) 0 leads tt s h)

  reach_most : reach_of s ≤ 4
  reach_most = leb→le _ 4 (at_entry (λ (k reach : ℕ). leb reach 4) 0 reaches tt s h)

  digit_within : get_or at_digit s 0 ≤ 15
  digit_within = leb→le _ 15 (at_entry (λ (k state : ℕ). leb state 15) 0 at_digit tt s h)

  digit_way : way_of (get_or at_digit s 0) ≡ cond (eqb (reach_of s) 0) 0 (cond (eqb (reach_of s) 4) 2 1)
  digit_way = eqb→eq _ _ (at_entry (λ (k state : ℕ). eqb (way_of state) (cond (eqb (reach_of k) 0) 0 (cond (eqb (reach_of k) 4) 2 1))) 0 at_digit tt s h)

  digit_lead : lead_of (get_or at_digit s 0) ≡ cond (eqb (reach_of s) 0) 0 (cond (eqb (reach_of s) 4) 2 (reach_of s - 1))
  digit_lead = eqb→eq _ _ (at_entry (λ (k state : ℕ). eqb (lead_of state) (cond (eqb (reach_of k) 0) 0 (cond (eqb (reach_of k) 4) 2 (reach_of k - 1)))) 0 at_digit tt s h)

  digit_reach : reach_of (get_or at_digit s 0) ≡ lead_of s + cond (eqb (reach_of s) 4) 1 2
  digit_reach = eqb→eq _ _ (at_entry (λ (k state : ℕ). eqb (reach_of state) (lead_of k + cond (eqb (reach_of k) 4) 1 2)) 0 at_digit tt s h)

  separator_within : get_or at_separator s 0 ≤ 15
  separator_within = leb→le _ 15 (at_entry (λ (k state : ℕ). leb state 15) 0 at_separator tt s h)

  separator_way : way_of (get_or at_separator s 0) ≡ lead_of s
  separator_way = eqb→eq _ _ (at_entry (λ (k state : ℕ). eqb (way_of state) (lead_of k)) 0 at_separator tt s h)

  separator_lead : lead_of (get_or at_separator s 0) ≡ lead_of s
  separator_lead = eqb→eq _ _ (at_entry (λ (k state : ℕ). eqb (lead_of state) (lead_of k)) 0 at_separator tt s h)

  separator_reach : reach_of (get_or at_separator s 0) ≡ 0
  separator_reach = eqb→eq _ _ (at_entry (λ (k state : ℕ). eqb (reach_of state) 0) 0 at_separator tt s h)

-- in set C a byte begins with FNC1 or is the first of two digits
pub data InC : ℕ → List ℕ → Type 0 where
  parts : {rest : List ℕ} → from_c (separator ∷ rest) ≡ 102 ∷ from_c rest → InC separator rest
  pairs : {a b : ℕ} {rest : List ℕ} → is_digit a ≡ true → is_digit b ≡ true → from_c (a ∷ b ∷ rest) ≡ pair_of a b ∷ from_c rest → InC a (b ∷ rest)

-- where a byte stands before its rest: whether set B, the set that is on, or set C spells it
pub data Goes : ℕ → ℕ → List ℕ → Type 0 where
  only_b : {byte : ℕ} {rest : List ℕ} → from_b (byte ∷ rest) ≡ value_b byte ∷ from_b rest → from_c (byte ∷ rest) ≡ 100 ∷ value_b byte ∷ from_b rest → Goes 0 byte rest
  either : {byte : ℕ} {rest : List ℕ} → from_b (byte ∷ rest) ≡ value_b byte ∷ from_b rest → InC byte rest → Goes 1 byte rest
  only_c : {byte : ℕ} {rest : List ℕ} → from_b (byte ∷ rest) ≡ 99 ∷ from_c (byte ∷ rest) → InC byte rest → Goes 2 byte rest

module _ {byte : ℕ} {rest : List ℕ} where
  pub goes_in_b : {way : ℕ} → Goes way byte rest → way ≤ 1 → from_b (byte ∷ rest) ≡ value_b byte ∷ from_b rest
  goes_in_b (only_b b c) h = b
  goes_in_b (either b c) h = b
  goes_in_b (only_c b c) h = absurd (omega arith)

  pub goes_to_c : {way : ℕ} → Goes way byte rest → 2 ≤ way → from_b (byte ∷ rest) ≡ 99 ∷ from_c (byte ∷ rest)
  goes_to_c (only_b b c) h = absurd (omega arith)
  goes_to_c (either b c) h = absurd (omega arith)
  goes_to_c (only_c b c) h = b

  pub goes_to_b : {way : ℕ} → Goes way byte rest → way ≤ 0 → from_c (byte ∷ rest) ≡ 100 ∷ from_b (byte ∷ rest)
  goes_to_b (only_b b c) h = rw b c
  goes_to_b (either b c) h = absurd (omega arith)
  goes_to_b (only_c b c) h = absurd (omega arith)

  pub goes_in_c : {way : ℕ} → Goes way byte rest → 1 ≤ way → InC byte rest
  goes_in_c (only_b b c) h = absurd (omega arith)
  goes_in_c (either b c) h = c
  goes_in_c (only_c b c) h = c

-- what a state says of the text ahead
pub record Ahead (s : ℕ) (text : List ℕ) : Type 0 where
  pub within : s < 16
  pub lead : length (from_b text) + 1 ≡ length (from_c text) + lead_of s
  pub digit : is_digit (get_or text 0 0) ≡ ltb 0 (reach_of s)
  pub reach : 0 < reach_of s → length (from_b text) + 2 ≡ length (from_c (drop 1 text)) + reach_of s

-- and of its first byte
pub record Told (s byte : ℕ) (rest : List ℕ) : Type 0 where
  pub ahead : Ahead s (byte ∷ rest)
  pub goes : Goes (way_of s) byte rest

module _ (rest : List ℕ) (s : ℕ) (a : Ahead s rest) where
  told_at_separator : Told (get_or at_separator s 0) separator rest
  told_at_separator = go (ltb (lead_of s) 1) refl (ltb 1 (lead_of s)) refl
    where
      within : s < 16
      within = a.within

      told : length (from_b (separator ∷ rest)) ≡ length (from_b rest) + 1 → length (from_c (separator ∷ rest)) ≡ length (from_c rest) + 1 → Goes (lead_of s) separator rest → Told (get_or at_separator s 0) separator rest
      told b c goes = record {
        ahead = record {
          within = omega (arith, separator_within s within);
          lead = omega (arith, a.lead, separator_lead s within);
          digit = sym (le-ltb 0 (reach_of (get_or at_separator s 0)) (omega (arith, separator_reach s within)));
          reach = λ h. absurd (omega (arith, separator_reach s within));
        };
        goes = rw (separator_way s within) goes;
      }

      go : (t : Bool) → ltb (lead_of s) 1 ≡ t → (u : Bool) → ltb 1 (lead_of s) ≡ u → Told (get_or at_separator s 0) separator rest
      go true e u f =
          let none : lead_of s ≡ 0 = omega (arith, ltb-true (lead_of s) 1 e) in
          let in_b = separator_in_b rest (omega (arith, a.lead)) in
          let to_b = separator_to_b rest (omega (arith, a.lead)) in
          told (omega (arith, ap length in_b)) (omega (arith, ap length to_b, a.lead))
          (rw none (only_b in_b to_b))
      go false e true f =
          let two : lead_of s ≡ 2 = omega (arith, ltb-true 1 (lead_of s) f, lead_most s within) in
          let to_c = separator_to_c rest (omega (arith, a.lead)) in
          let in_c = separator_in_c rest (omega (arith, a.lead)) in
          told (omega (arith, ap length to_c, a.lead)) (omega (arith, ap length in_c))
          (rw two (only_c (to_c ∙ ap (λ (values : List ℕ). 99 ∷ values) (sym in_c)) (parts in_c)))
      go false e false f =
          let one : lead_of s ≡ 1 = omega (arith, ltb-false (lead_of s) 1 e, ltb-false 1 (lead_of s) f) in
          let in_b = separator_in_b rest (omega (arith, a.lead)) in
          let in_c = separator_in_c rest (omega (arith, a.lead)) in
          told (omega (arith, ap length in_b)) (omega (arith, ap length in_c))
          (rw one (either in_b (parts in_c)))

-- a byte that set C has not
lone_goes : (byte : ℕ) (rest : List ℕ) → (byte ≡ separator → ⊥) → (is_digit byte && is_digit (get_or rest 0 0)) ≡ false → Goes 0 byte rest
lone_goes byte rest other alone = only_b (other_in_b byte rest other alone) (other_in_c byte rest other alone)

module _ (byte : ℕ) (is : is_digit byte ≡ true) where
  not_separator : byte ≡ separator → ⊥
  not_separator e = omega (arith, digit_range byte is)

  -- by the numbers of the state at the digit
  told_by_numbers : (rest : List ℕ) (s : ℕ) → s < 16 → (way lead more : ℕ) → way_of (get_or at_digit s 0) ≡ way → lead_of (get_or at_digit s 0) ≡ lead → reach_of (get_or at_digit s 0) ≡ lead_of s + more → 1 ≤ more → length (from_b (byte ∷ rest)) + 1 ≡ length (from_c (byte ∷ rest)) + lead → length (from_b (byte ∷ rest)) + 2 ≡ length (from_c rest) + (lead_of s + more) → Goes way byte rest → Told (get_or at_digit s 0) byte rest
  told_by_numbers rest s within way lead more w l r some_more leads-by reaches-by goes = record {
    ahead = record {
      within = omega (arith, digit_within s within);
      lead = omega arith;
      digit = is ∙ sym (lt-ltb 0 (reach_of (get_or at_digit s 0)) (omega arith));
      reach = λ _. omega arith;
    };
    goes = rw w goes;
  }

  told_at_lone_digit : (rest : List ℕ) (s : ℕ) → Ahead s rest → reach_of s ≡ 0 → Told (get_or at_digit s 0) byte rest
  told_at_lone_digit rest s a none =
      let alone : (is_digit byte && is_digit (get_or rest 0 0)) ≡ false = rw (is, a.digit) (le-ltb 0 (reach_of s) (omega arith)) in
      let b = ap length (other_in_b byte rest not_separator alone) in
      let c = ap length (other_in_c byte rest not_separator alone) in
      let zero = eq-eqb (reach_of s) 0 none in
      let not-four = ne_eqb (reach_of s) 4 (omega arith) in
      told_by_numbers rest s a.within 0 0 2 (rw zero at (digit_way s a.within)) (rw zero at (digit_lead s a.within))
      (rw not-four at (digit_reach s a.within)) (omega arith) (omega arith) (omega (arith, a.lead)) (lone_goes byte rest not_separator alone)

  told_at_pair : (rest : List ℕ) (s : ℕ) → Ahead s rest → 0 < reach_of s → Told (get_or at_digit s 0) byte rest
  told_at_pair [] s a h = absurd (let z : ◌≡◌ {A = ℕ} 0 1 = cc (a.digit, lt-ltb 0 (reach_of s) h) in omega arith)
  told_at_pair (next ∷ rest) s a h = go (eqb (reach_of s) 4) refl
    where
      within : s < 16
      within = a.within

      two : is_digit next ≡ true
      two = a.digit ∙ lt-ltb 0 (reach_of s) h

      zero : eqb (reach_of s) 0 ≡ false
      zero = ne_eqb (reach_of s) 0 (omega arith)

      in_c : from_c (byte ∷ next ∷ rest) ≡ pair_of byte next ∷ from_c rest
      in_c = pair_in_c byte next rest is two

      go : (t : Bool) → eqb (reach_of s) 4 ≡ t → Told (get_or at_digit s 0) byte (next ∷ rest)
      go true f =
          let four : reach_of s ≡ 4 = eqb-true (reach_of s) 4 f in
          let far = a.reach h in
          let to_c = pair_to_c byte next rest is two (omega arith) in
          let b = ap length to_c in
          let c = ap length in_c in
          told_by_numbers (next ∷ rest) s within 2 2 1 (rw (zero, f) at (digit_way s within)) (rw (zero, f) at (digit_lead s within))
          (rw f at (digit_reach s within)) (omega arith) (omega arith) (omega (arith, a.lead))
          (only_c (to_c ∙ ap (λ (values : List ℕ). 99 ∷ values) (sym in_c)) (pairs is two in_c))
      go false f =
          let near : reach_of s ≤ 3 = omega (arith, eqb-false (reach_of s) 4 f, reach_most s within) in
          let far = a.reach h in
          let in_b = pair_in_b byte next rest is two (omega arith) in
          let b = ap length in_b in
          let c = ap length in_c in
          told_by_numbers (next ∷ rest) s within 1 (reach_of s - 1) 2 (rw (zero, f) at (digit_way s within)) (rw (zero, f) at (digit_lead s within))
          (rw f at (digit_reach s within)) (omega arith) (omega arith) (omega (arith, a.lead))
          (either in_b (pairs is two in_c))

  told_at_digit : (rest : List ℕ) (s : ℕ) → Ahead s rest → Told (get_or at_digit s 0) byte rest
  told_at_digit rest s a = go (ltb 0 (reach_of s)) refl
    where
      go : (t : Bool) → ltb 0 (reach_of s) ≡ t → Told (get_or at_digit s 0) byte rest
      go true e = told_at_pair rest s a (ltb-true 0 (reach_of s) e)
      go false e = told_at_lone_digit rest s a (omega (arith, ltb-false 0 (reach_of s) e))

told_at_other : (byte : ℕ) (rest : List ℕ) → is_digit byte ≡ false → (byte ≡ separator → ⊥) → Told 0 byte rest
told_at_other byte rest e other =
    let alone : (is_digit byte && is_digit (get_or rest 0 0)) ≡ false = rw e in
    let b = ap length (other_in_b byte rest other alone) in
    let c = ap length (other_in_c byte rest other alone) in
    record {
      ahead = record { within = omega arith; lead = omega arith; digit = e; reach = λ h. absurd (omega arith) };
      goes = lone_goes byte rest other alone;
    }

told : (byte : ℕ) (rest : List ℕ) (s : ℕ) → Ahead s rest → Told (state_at byte s) byte rest
unfolding state_at
told byte rest s a = go (is_digit byte) refl (eqb byte separator) refl
  where
    go : (t : Bool) → is_digit byte ≡ t → (u : Bool) → eqb byte separator ≡ u → Told (state_at byte s) byte rest
    go true e u f = rw e (told_at_digit byte e rest s a)
    go false e true f = rw (eqb-true byte separator f) (told_at_separator rest s a)
    go false e false f = rw (e, f) (told_at_other byte rest e (eqb-false byte separator f))

pub state_of_nil : state_of [] ≡ 4
unfolding state_of
state_of_nil = refl

pub state_more : (text : List ℕ) (i : ℕ) → i < length text → state_of (drop i text) ≡ state_at (get_or text i 0) (state_of (drop (i + 1) text))
unfolding state_of
state_more text i h = rw (drop-cons text i 0 h, add-one)

pub ahead_of : (text : List ℕ) → Ahead (state_of text) text
unfolding state_of bests
ahead_of [] = record { within = omega arith; lead = refl; digit = refl; reach = λ h. absurd (omega arith) }
ahead_of (byte ∷ rest) = (told byte rest (state_of rest) (ahead_of rest)).ahead

pub state_within : (text : List ℕ) → state_of text < 16
state_within text = (ahead_of text).within

pub goes_on : (byte : ℕ) (rest : List ℕ) → Goes (way_of (state_of (byte ∷ rest))) byte rest
unfolding state_of
goes_on byte rest = (told byte rest (state_of rest) (ahead_of rest)).goes

abbrev bit : Bool → ℕ
bit t = cond t 1 0

starts_row : (s : ℕ) → s < 16 → bit (starts_in_c s) ≡ bit (ltb 1 (lead_of s))
unfolding starts_in_c
starts_row s h = eqb→eq _ _ (at_entry (λ (k state : ℕ). eqb (bit (eqb state 12)) (bit (ltb 1 (lead_of k)))) 0 at_separator tt s h)

-- set C is the better start where what is best from there is shorter
pub starts : (text : List ℕ) → best_spelling text ≡ cond (starts_in_c (state_of text)) 105 104 ∷ 102 ∷ from (starts_in_c (state_of text)) text
starts text = go (starts_in_c (state_of text)) (ltb 1 (lead_of (state_of text))) refl (starts_row (state_of text) (state_within text))
  where
    lead : length (from_b text) + 1 ≡ length (from_c text) + lead_of (state_of text)
    lead = (ahead_of text).lead

    go : (c t : Bool) → ltb 1 (lead_of (state_of text)) ≡ t → bit c ≡ bit t → best_spelling text ≡ cond c 105 104 ∷ 102 ∷ from c text
    go true true e f = start_in_c text (omega (arith, lead, ltb-true 1 (lead_of (state_of text)) e))
    go true false e f = absurd (omega arith)
    go false true e f = absurd (omega arith)
    go false false e f = start_in_b text (omega (arith, lead, ltb-false 1 (lead_of (state_of text)) e))
