-- The rules of the calls that draw and read a number, read backwards, and how they undo one another: a right number is its digits, its
-- digits are its bytes, so all that a symbology adds is that its scan and its drawing undo one another.
use Rattle.std.specs.Prelude.{Result, Ok, Err}
use Prim.Native.Nat.{ℕ, ◌+◌, ◌≤◌, ◌<◌}
use mathlib.Core.Path.{◌≡◌, refl, sym, ap, ap₂, ◌∙◌, subst}
use mathlib.Core.Bool.{true}
use mathlib.Core.List.{List, [], ◌∷◌, map}
use native.Mathlib.Nat.{add-sub_cancel_left}
use native.Mathlib.Omega.{arith}
use lib.ListN.{length, get_or, length-map, get_or-map}
use lib.Seq.{ext_get_or}
use lib.Dec.{eqb}
use borrow.Author.Tests.{le-leb, eqb-true, eq-eqb}
use Rattle.laws.specs.Below.{Below}
use Rattle.laws.specs.First.{first_not}
use Rattle.laws.proofs.FirstLaws.{all_pass, pass_all}
use Rattle.refusal.specs.declared.Refusal.{Refusal}
use Rattle.refusal.specs.declared.Refusal.TheVariants.{Count, Character, CheckDigit}
use Rattle.refusal.specs.Outcome.{Outcome, made, refused, must, ◌>>◌}
use Rattle.refusal.specs.Fills.{answer_of, Fills, FillsOwn, laying}
use Rattle.refusal.proofs.OutcomeLaws.{made_same, must_made, bind_made, must_then}
use Rattle.refusal.proofs.FillsLaws.{refused_of_answer, made_of_answer, fills_refused, fills_passed, fills_same, laying_made, made_of_laying}
use Rattle.refusal.proofs.OwnLaws.{own_made}
use Rattle.digits.specs.Digit.{is_digit, value_of, digits_of}
use Rattle.digits.specs.Check.{is_right, right_number}
use Rattle.digits.specs.Numbered.{byte_of, number_written, number_read}
use Rattle.digits.proofs.DigitLaws.{digit_range, digit_at, digits_made}

pub digits_of_made : (bytes ds : List ℕ) → digits_of bytes ≡ made ds → (first_not is_digit bytes ≡ length bytes) × (ds ≡ map value_of bytes)
unfolding digits_of
digits_of_made bytes ds e =
    let parts = must_made (eqb (first_not is_digit bytes) (length bytes)) (Character (first_not is_digit bytes)) (made (map value_of bytes)) ds e in
    (eqb-true _ _ parts.0, sym (made_same _ _ parts.1))

-- what is known of a number that passed
pub record RightNumber (count : ℕ) (number ds : List ℕ) : Type 0 where
  pub counted : length number ≡ count
  pub all : first_not is_digit number ≡ length number
  pub values : ds ≡ map value_of number
  pub right : is_right ds ≡ true

pub right_made : (count : ℕ) (number ds : List ℕ) → right_number count number ≡ made ds → RightNumber count number ds
unfolding right_number
right_made count number ds e =
    let a = must_made (eqb (length number) count) Count _ ds e in
    let b = bind_made (digits_of number) (λ (digits : List ℕ). must (is_right digits) CheckDigit >> made digits) ds a.1 in
    let c = must_made (is_right b.0) CheckDigit (made b.0) ds b.2 in
    let same : b.0 ≡ ds = made_same b.0 ds c.1 in
    let d = digits_of_made number b.0 b.1 in
    record { counted = eqb-true _ _ a.0; all = d.0; values = sym same ∙ d.1; right = rw same at c.0 }

pub right_done : (count : ℕ) (number : List ℕ) (n : ℕ) → Ok n ≡ answer_of (right_number count number) → RightNumber count number (map value_of number)
right_done count number n e =
    let m = made_of_answer (right_number count number) n e in
    let r = right_made count number m.0 m.1 in
    subst (λ (ds : List ℕ). RightNumber count number ds) r.values r

pub right_of_parts : (count : ℕ) (number ds : List ℕ) → RightNumber count number ds → right_number count number ≡ made ds
unfolding right_number
right_of_parts count number ds r =
    let right : is_right (map value_of number) ≡ true = rw (← r.values) r.right in
    simp (eq-eqb _ _ r.counted, digits_made number r.all, right) (ap made (sym r.values))

pub values_are_digits : (bytes : List ℕ) → first_not is_digit bytes ≡ length bytes → Below 10 (map value_of bytes)
values_are_digits bytes all i h =
    let within : i < length bytes = rw length-map at h in
    rw (get_or-map value_of bytes i 0) (omega (arith, (digit_at bytes all i within).1))

pub bytes_of_values : (bytes : List ℕ) → first_not is_digit bytes ≡ length bytes → map byte_of (map value_of bytes) ≡ bytes
bytes_of_values bytes all =
    ext_get_or 48 (map byte_of (map value_of bytes)) bytes (length-map (map value_of bytes) byte_of ∙ length-map bytes value_of)
    (λ i h.
    let within : i < length bytes = simp length-map at h in
    rw (get_or-map byte_of (map value_of bytes) i 0, get_or-map value_of bytes i 48)
    (omega (arith, (digit_range (get_or bytes i 48) (all_pass is_digit bytes all i 48 within)).0)))

pub values_of_bytes : (ds : List ℕ) → map value_of (map byte_of ds) ≡ ds
values_of_bytes [] = refl
values_of_bytes (d ∷ ds) = ap₂ (λ (v : ℕ) (vs : List ℕ). v ∷ vs) (add-sub_cancel_left 48 d) (values_of_bytes ds)

pub bytes_are_digits : (ds : List ℕ) → Below 10 ds → first_not is_digit (map byte_of ds) ≡ length (map byte_of ds)
bytes_are_digits ds below = pass_all is_digit (map byte_of ds) 48
    (λ i h.
    let within : i < length ds = rw length-map at h in
    rw (get_or-map byte_of ds i 0)
    (simp (le-leb 48 (byte_of (get_or ds i 0)) (omega arith), le-leb (byte_of (get_or ds i 0)) 57 (omega (arith, below i within)))))

-- the values that the test of a number has laid in as many places as it must have digits
pub tested_values : (count : ℕ) (number before after : List ℕ) (r : Result ℕ Refusal) (n : ℕ) → FillsOwn (right_number count number) before r after → r ≡ Ok n → length before ≡ count → (after ≡ map value_of number) × (length after ≡ count) × Below 10 after
tested_values count number before after r n fills is long =
    let known = right_done count number n (sym is ∙ fills.answer) in
    let digits = right_of_parts count number (map value_of number) known in
    let counted : length (map value_of number) ≡ count = length-map number value_of ∙ known.counted in
    let whole = own_made _ before after r n is fills (λ ds e. ap length (made_same ds _ (sym e ∙ digits)) ∙ counted ∙ sym long) in
    let same : after ≡ map value_of number = made_same _ _ (sym whole ∙ digits) in
    (same, ap length same ∙ counted, subst (Below 10) (sym same) (values_are_digits number known.all))

-- a call that tests a number and lays its symbol: the test's refusal is passed on, or the symbol laid
module _ (count : ℕ) (symbol : List ℕ → List ℕ) (number : List ℕ) (room : ℕ) where
  written_made : (ds : List ℕ) → right_number count number ≡ made ds → number_written count symbol number room ≡ laying (symbol ds) room
  unfolding number_written
  written_made ds e = rw e

  module _ (tested : Result ℕ Refusal) (answer : tested ≡ answer_of (right_number count number)) where
    pub written_refused : (f : Refusal) (lent : List ℕ) → tested ≡ Err f → Fills (number_written count symbol number room) lent tested lent
    unfolding number_written
    written_refused f lent is = fills_passed _ f lent tested is (rw (refused_of_answer (right_number count number) f (sym is ∙ answer)))

    pub written_laid : (n : ℕ) (bars lent after : List ℕ) (r : Result ℕ Refusal) → tested ≡ Ok n → bars ≡ symbol (map value_of number) → Fills (laying bars room) lent r after → Fills (number_written count symbol number room) lent r after
    written_laid n bars lent after r is drawn laid =
        let ds = map value_of number in
        let digits = right_of_parts count number ds (right_done count number n (sym is ∙ answer)) in
        fills_same _ (laying bars room) lent r after (written_made ds digits ∙ ap (λ (widths : List ℕ). laying widths room) (sym drawn)) laid

-- what was written is the symbol of the number's digits, so equal numbers have equal bars, whatever the room
module _ (count : ℕ) (symbol : List ℕ → List ℕ) where
  pub written_symbol : (number widths : List ℕ) (room : ℕ) → number_written count symbol number room ≡ made widths → (symbol (map value_of number) ≡ widths) × RightNumber count number (map value_of number)
  unfolding number_written
  written_symbol number widths room e =
      let w = bind_made (right_number count number) (λ (ds : List ℕ). laying (symbol ds) room) widths e in
      let r = right_made count number w.0 w.1 in (
        ap symbol (sym r.values) ∙ (made_of_laying (symbol w.0) widths room w.2).1,
        subst (λ (ds : List ℕ). RightNumber count number ds) r.values r,
      )

  pub equal_bars : (number widths widths' : List ℕ) (room room' : ℕ) → number_written count symbol number room ≡ made widths → number_written count symbol number room' ≡ made widths' → widths ≡ widths'
  equal_bars number widths widths' room room' e e' = sym (written_symbol number widths room e).0 ∙ (written_symbol number widths' room' e').0

  -- what holds of the symbol of any digits holds of what was written
  pub of_written : (P : List ℕ → Type 0) → ((ds : List ℕ) → length ds ≡ count → Below 10 ds → P (symbol ds)) → (number widths : List ℕ) (room : ℕ) → number_written count symbol number room ≡ made widths → P widths
  of_written P of-symbol number widths room e =
      let w = written_symbol number widths room e in
      subst P w.0 (of-symbol (map value_of number) (length-map number value_of ∙ w.1.counted) (values_are_digits number w.1.all))

-- a call that scans digits and lays their number: the scan's refusal is passed on, or the number of what it made is laid
module _ (scanned : Outcome (List ℕ)) where
  read_made : (room : ℕ) (ds : List ℕ) → scanned ≡ made ds → is_right ds ≡ true → number_read scanned room ≡ laying (map byte_of ds) room
  unfolding number_read
  read_made room ds e right = rw (e, right)

  pub read_refused : (room : ℕ) (f : Refusal) (lent : List ℕ) → scanned ≡ refused f → Fills (number_read scanned room) lent (Err f) lent
  unfolding number_read
  read_refused room f lent e = fills_refused _ f lent (rw e)

-- of digits, reading refuses and makes what writing their number as its bytes does
pub read_as_written : (ds : List ℕ) (room : ℕ) → Below 10 ds → number_read (made ds) room ≡ number_written (length ds) (map byte_of) (map byte_of ds) room
unfolding number_read number_written right_number
read_as_written ds room below =
    simp (eq-eqb (length (map byte_of ds)) (length ds) (length-map ds byte_of), digits_made (map byte_of ds) (bytes_are_digits ds below), values_of_bytes ds)
    (must_then (is_right ds) CheckDigit ds (λ (digits : List ℕ). laying (map byte_of digits) room))

-- Reading and drawing undo one another where the scan and the symbol do.
module _ (count : ℕ) (symbol : List ℕ → List ℕ) (scanned : List ℕ → Outcome (List ℕ)) where
  pub read_of_write : ((ds : List ℕ) → length ds ≡ count → Below 10 ds → scanned (symbol ds) ≡ made ds) → (number widths : List ℕ) (room room' : ℕ) → number_written count symbol number room ≡ made widths → count ≤ room' → number_read (scanned widths) room' ≡ made number
  read_of_write back number widths room room' e fits =
      let w = written_symbol count symbol number widths room e in
      let ds = map value_of number in
      let long : length ds ≡ count = length-map number value_of ∙ w.1.counted in
      let scan : scanned widths ≡ made ds = ap scanned (sym w.0) ∙ back ds long (values_are_digits number w.1.all) in
      read_made (scanned widths) room' ds scan w.1.right
      ∙ laying_made (map byte_of ds) room' (rw length-map (omega arith))
      ∙ ap made (bytes_of_values number w.1.all)

  -- so no two numbers have the same bars
  pub one_number : ((ds : List ℕ) → length ds ≡ count → Below 10 ds → scanned (symbol ds) ≡ made ds) → (number number' widths : List ℕ) (room room' : ℕ) → number_written count symbol number room ≡ made widths → number_written count symbol number' room' ≡ made widths → number ≡ number'
  one_number back number number' widths room room' e e' =
      made_same number number' (sym (read_of_write back number widths room count e (omega arith)) ∙ read_of_write back number' widths room' count e' (omega arith))

  pub write_of_read : ((widths ds : List ℕ) → scanned widths ≡ made ds → (symbol ds ≡ widths) × (length ds ≡ count) × Below 10 ds) → (widths number : List ℕ) (room room' : ℕ) → number_read (scanned widths) room ≡ made number → length widths ≤ room' → number_written count symbol number room' ≡ made widths
  unfolding number_read
  write_of_read back widths number room room' e fits =
      let s = bind_made (scanned widths) (λ (ds : List ℕ). must (is_right ds) CheckDigit >> laying (map byte_of ds) room) number e in
      let ds = s.0 in
      let m = must_made (is_right ds) CheckDigit (laying (map byte_of ds) room) number s.2 in
      let bytes : map byte_of ds ≡ number = (made_of_laying (map byte_of ds) number room m.1).1 in
      let b = back widths ds s.1 in
      let known : RightNumber count (map byte_of ds) ds = record { counted = length-map ds byte_of ∙ b.1; all = bytes_are_digits ds b.2; values = sym (values_of_bytes ds); right = m.0 } in
      written_made count symbol number room' ds (ap (right_number count) (sym bytes) ∙ right_of_parts count (map byte_of ds) ds known)
      ∙ laying_made (symbol ds) room' (rw b.0 fits)
      ∙ ap made b.0

  -- a scan that has filled a list of as many places
  pub digits_scanned : ((widths ds : List ℕ) → scanned widths ≡ made ds → (symbol ds ≡ widths) × (length ds ≡ count) × Below 10 ds) → (widths before after : List ℕ) (r : Result ℕ Refusal) (n : ℕ) → FillsOwn (scanned widths) before r after → r ≡ Ok n → length before ≡ count → (scanned widths ≡ made after) × (length after ≡ count) × Below 10 after
  digits_scanned back widths before after r n fills is places =
      let e = own_made (scanned widths) before after r n is fills (λ ds e. (back widths ds e).1 ∙ sym places) in
      let parts = back widths after e in
      (e, parts.1, parts.2)

  -- so no two lists are read as one number
  pub one_list : ((widths ds : List ℕ) → scanned widths ≡ made ds → (symbol ds ≡ widths) × (length ds ≡ count) × Below 10 ds) → (widths widths' number : List ℕ) (room room' : ℕ) → number_read (scanned widths) room ≡ made number → number_read (scanned widths') room' ≡ made number → widths ≡ widths'
  one_list back widths widths' number room room' e e' =
      let most = length widths + length widths' in
      made_same widths widths'
      (sym (write_of_read back widths number room most e (omega arith)) ∙ write_of_read back widths' number room' most e' (omega arith))
