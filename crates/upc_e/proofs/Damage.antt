-- A damaged UPC-E. One width changed changes the sum of all. One character replaced by one of the other set changes one letter of the row, and no two
-- rows differ in one alone; one of the first five replaced by another of its set changes one digit of the number and neither its rule nor its check
-- digit. Only the sixth chooses the rule, and only there can a replacement stay unseen.
use Prim.Native.Nat.{ℕ, zero, suc, ◌-◌, ◌/◌, ◌%◌, ◌<◌}
use mathlib.Core.Path.{◌≡◌, refl, sym, ap, subst, ◌∙◌}
use mathlib.Core.Bool.{Bool, true, false}
use mathlib.Core.Logic.{◌≢◌}
use mathlib.Core.List.{List, [], ◌∷◌, ◌++◌, map}
use native.Mathlib.Omega.{arith}
use lib.ListN.{length, get_or, set, length-set, length-map, get_or-map, get_or-append}
use lib.Seq.{set-get_or, set-append_left}
use lib.Dec.{T, eqb, ltb, eqb→eq}
use borrow.Author.Tests.{le-leb, lt-leb, ne_eqb, lt-ltb, ltb-true}
use Rattle.laws.specs.Below.{Below}
use Rattle.laws.specs.First.{first_not}
use Rattle.laws.specs.Sum.{sum}
use Rattle.laws.proofs.BelowLaws.{below_set}
use Rattle.laws.proofs.Booleans.{fails_unless}
use Rattle.laws.proofs.Listed.{listed_whole}
use Rattle.laws.proofs.Mapped.{set_map}
use Rattle.laws.proofs.SumLaws.{sum_of_set}
use Rattle.laws.proofs.Tables.{every, at_entry}
use Rattle.refusal.specs.declared.Refusal.{Refusal}
use Rattle.refusal.specs.declared.Refusal.TheVariants.{CheckDigit, Pattern}
use Rattle.refusal.specs.Outcome.{made, refused}
use Rattle.refusal.proofs.OutcomeLaws.{made_same, must_made, refused_unless_made}
use Rattle.patterns.specs.Patterns.{same, value_in}
use Rattle.patterns.proofs.PatternLaws.{pattern_at}
use Rattle.parity.specs.declared.rows.Rows.TheVariants.{CheckDigit as ByCheckDigit}
use Rattle.parity.specs.Rows.{by_check_digit}
use Rattle.parity.proofs.RowLaws.{length_of_row, letters_of_row}
use Rattle.digits.specs.Check.{is_right}
use Rattle.digits.proofs.TheoremsOnValues.{change_is_seen}
use Rattle.upc_e.specs.Condensing.{expanded}
use Rattle.upc_e.specs.UpcE.{framed, values_in, check_from, scanned, reads}
use Rattle.upc_e.proofs.CondensingLaws.{Rule, up_to_two, three, four, from_five, rule_of, length_of_expanded}
use Rattle.upc_e.proofs.SymbolLaws.{sum_of_symbol, symbol_of_scan, values_of_framed, framed_of_values}
use Rattle.upc_e.proofs.Theorems.{is_read}

sum_of_read : (widths number : List ℕ) (room : ℕ) → reads widths room ≡ made number → sum widths ≡ 51
sum_of_read widths number room e =
    let known = is_read widths number room e in
    let s = symbol_of_scan widths known.0 known.1.found in
    ap sum (sym s.0) ∙ sum_of_symbol known.0 s.1 s.2

-- one width changed
pub width_is_seen : (widths number : List ℕ) (room : ℕ) → reads widths room ≡ made number → (i x : ℕ) → i < length widths → x ≢ get_or widths i 0 → (room' : ℕ) → (f : Refusal) × (reads (set widths i x) room' ≡ refused f)
width_is_seen widths number room e i x h other room' =
    refused_unless_made (reads (set widths i x) room')
    (λ again e'. other (omega (arith, sum_of_set widths i x h, sum_of_read widths number room e, sum_of_read (set widths i x) again room' e')))

of_five : (P : ℕ → Type 0) → P 0 → P 1 → P 2 → P 3 → P 4 → (i : ℕ) → i < 5 → P i
of_five P p q r s t zero h = p
of_five P p q r s t (suc zero) h = q
of_five P p q r s t (suc (suc zero)) h = r
of_five P p q r s t (suc (suc (suc zero))) h = s
of_five P p q r s t (suc (suc (suc (suc zero)))) h = t
of_five P p q r s t (suc (suc (suc (suc (suc i))))) h = absurd (omega arith)

-- one of the first five digits stands at one place of the twelve, which the rule tells
abbrev StandsOnce : List ℕ → ℕ → ℕ → Type 0
StandsOnce short x i = (place : ℕ) × (place < 12) × (get_or (expanded short) place 0 ≡ get_or short i 0) × (expanded (set short i x) ≡ set (expanded short) place x)

module _ (a b c d e last check x : ℕ) where
  abbrev short : List ℕ
  short = a ∷ b ∷ c ∷ d ∷ e ∷ last ∷ check ∷ []

  stands_once : (i : ℕ) → i < 5 → StandsOnce short x i
  unfolding expanded
  stands_once = go (rule_of last)
    where
      go : Rule last → (i : ℕ) → i < 5 → StandsOnce short x i
      go (up_to_two h) =
          let two = le-leb last 2 h in
          of_five (StandsOnce short x)
          (rw two (1, omega arith, refl, refl))
          (rw two (2, omega arith, refl, refl))
          (rw two (8, omega arith, refl, refl))
          (rw two (9, omega arith, refl, refl))
          (rw two (10, omega arith, refl, refl))
      go (three h) =
          of_five (StandsOnce short x)
          (rw h (1, omega arith, refl, refl))
          (rw h (2, omega arith, refl, refl))
          (rw h (3, omega arith, refl, refl))
          (rw h (9, omega arith, refl, refl))
          (rw h (10, omega arith, refl, refl))
      go (four h) =
          of_five (StandsOnce short x)
          (rw h (1, omega arith, refl, refl))
          (rw h (2, omega arith, refl, refl))
          (rw h (3, omega arith, refl, refl))
          (rw h (4, omega arith, refl, refl))
          (rw h (10, omega arith, refl, refl))
      go (from_five h) =
          let not-two = lt-leb last 2 (omega arith) in
          let not_three = ne_eqb last 3 (λ is. omega arith) in
          let not-four = ne_eqb last 4 (λ is. omega arith) in
          of_five (StandsOnce short x)
          (rw (not-two, not_three, not-four) (1, omega arith, refl, refl))
          (rw (not-two, not_three, not-four) (2, omega arith, refl, refl))
          (rw (not-two, not_three, not-four) (3, omega arith, refl, refl))
          (rw (not-two, not_three, not-four) (4, omega arith, refl, refl))
          (rw (not-two, not_three, not-four) (5, omega arith, refl, refl))

-- of a short number that is right, with one of its first five digits replaced
wrong_digit : (short : List ℕ) → length short ≡ 7 → Below 10 short → is_right (expanded short) ≡ true → (i x : ℕ) → i < 5 → x < 10 → x ≢ get_or short i 0 → is_right (expanded (set short i x)) ≡ false
wrong_digit short long below right i x h ten other =
    fails_unless (is_right (expanded (set short i x)))
    (λ e.
    let old : get_or short i 0 < 10 = below i (omega arith) in
    change_is_seen (expanded short) once.0 x right (rw (length_of_expanded short) once.1) (rw once.2 old) ten (λ same. other (same ∙ once.2))
    (ap is_right (sym once.3) ∙ e))
  where
    once : StandsOnce short x i
    once =
        subst (λ (s : List ℕ). StandsOnce s x i) (listed_whole 7 short long)
        (stands_once (get_or short 0 0) (get_or short 1 0) (get_or short 2 0) (get_or short 3 0) (get_or short 4 0) (get_or short 5 0) (get_or short 6 0) x i h)

-- a row of letters with one of them exchanged is none of the rows: a test computed over the rows and their letters
abbrev is_no_row : List ℕ → ℕ → ℕ → Bool
is_no_row row i letter = eqb (value_in by_check_digit (set row i (1 - letter))) 10

none_near : T (every (λ (k : ℕ) (row : List ℕ). every (is_no_row row) row) by_check_digit)
unfolding value_in first_not same
none_near = tt

exchanged_letter : (check i letter : ℕ) → check < 10 → i < 6 → letter < 2 → letter ≢ get_or (get_or by_check_digit check []) i 0 → value_in by_check_digit (set (get_or by_check_digit check []) i letter) ≡ 10
exchanged_letter check i letter ten six two other =
    let row = get_or by_check_digit check [] in
    let long = length_of_row ByCheckDigit check ten in
    let is : 1 - get_or row i 0 ≡ letter = omega (arith, letters_of_row ByCheckDigit check ten i (rw long six)) in
    let test = at_entry (λ (k : ℕ) (letters : List ℕ). every (is_no_row letters) letters) [] by_check_digit none_near check ten in
    ap (λ (l : ℕ). value_in by_check_digit (set row i l)) (sym is) ∙ eqb→eq _ 10 (at_entry (is_no_row row) 0 row test i (rw long six))

-- a right symbol, the values of its characters, and one of them replaced
module _ (widths number : List ℕ) (room : ℕ) (e : reads widths room ≡ made number) (values : List ℕ) (is : values_in widths ≡ made values) (i v : ℕ) (six : i < 6) (twenty : v < 20) where
  abbrev old : ℕ
  old = get_or values i 0

  abbrev replaced : List ℕ
  replaced = framed (set values i v)

  abbrev check : ℕ
  check = check_from values

  abbrev ones : List ℕ
  ones = map (λ w. w % 10) values

  six_values : length values ≡ 6
  six_values = (framed_of_values widths values is).1

  again : values_in replaced ≡ made (set values i v)
  again = values_of_framed (set values i v) (length-set values i v ∙ six_values) (below_set 20 values i v (framed_of_values widths values is).2 twenty)

  abbrev scanned_short : List ℕ
  scanned_short = ones ++ (check ∷ [])

  -- what was read
  found : (check < 10) × (scanned widths ≡ made scanned_short) × (is_right (expanded scanned_short) ≡ true)
  unfolding scanned
  found =
      let known = is_read widths number room e in
      let parts = must_made (ltb check 10) (Pattern 12) (made scanned_short) known.0 (sym (rw is) ∙ known.1.found) in
      let short-is = made_same scanned_short known.0 parts.1 in
      (ltb-true check 10 parts.0, known.1.found ∙ ap made (sym short-is), ap (λ (short : List ℕ). is_right (expanded short)) short-is ∙ known.1.right)

  letters_now : map (λ w. w / 10) (set values i v) ≡ set (get_or by_check_digit check []) i (v / 10)
  letters_now = sym (set_map (λ w. w / 10) values i v) ∙ ap (λ (letters : List ℕ). set letters i (v / 10)) (sym (pattern_at by_check_digit (map (λ w. w / 10) values) found.0))

  -- by one of the other set: no row has these letters
  pub other_set_is_seen : v / 10 ≢ old / 10 → (room' : ℕ) → reads replaced room' ≡ refused (Pattern 12)
  unfolding reads scanned
  other_set_is_seen apart room' =
      let row = get_or by_check_digit check [] in
      let was : get_or row i 0 ≡ old / 10 = ap (λ (letters : List ℕ). get_or letters i 0) (pattern_at by_check_digit (map (λ w. w / 10) values) found.0) ∙ get_or-map (λ w. w / 10) values i 0 in
      let none : check_from (set values i v) ≡ 10 = ap (value_in by_check_digit) letters_now ∙ exchanged_letter check i (v / 10) found.0 six (omega arith) (λ same. apart (same ∙ was)) in
      rw (again, none)

  -- by another of its set, the sixth character left as it is: the number is wrong
  pub same_set_is_seen : i < 5 → v / 10 ≡ old / 10 → v ≢ old → (room' : ℕ) → reads replaced room' ≡ refused CheckDigit
  unfolding reads scanned
  same_set_is_seen five set-kept other room' =
      let letters = map (λ w. w / 10) values in
      let letters-kept : map (λ w. w / 10) (set values i v) ≡ letters =
      sym (set_map (λ w. w / 10) values i v) ∙ ap (set letters i) (set-kept ∙ sym (get_or-map (λ w. w / 10) values i 0)) ∙ set-get_or letters i 0 in
      let within : i < length ones = rw length-map (rw six_values six) in
      let short-now : map (λ w. w % 10) (set values i v) ++ (check ∷ []) ≡ set scanned_short i (v % 10) =
      ap (λ (digits : List ℕ). digits ++ (check ∷ [])) (sym (set_map (λ w. w % 10) values i v)) ∙ sym (set-append_left ones (check ∷ []) i (v % 10) within) in
      let was : get_or scanned_short i 0 ≡ old % 10 = get_or-append ones (check ∷ []) 0 i within ∙ get_or-map (λ w. w % 10) values i 0 in
      let known = symbol_of_scan widths scanned_short found.1 in
      let wrong = wrong_digit scanned_short known.1 known.2 found.2 i (v % 10) five (omega arith) (λ same. other (omega (arith, was))) in
      rw (again, ap (value_in by_check_digit) letters-kept, lt-ltb check 10 found.0, short-now, wrong)
