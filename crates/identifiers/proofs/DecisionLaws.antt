-- The first two digits of an identifier decide how many it has: so the only identifier that some bytes can begin with is the number of
-- that many digits, and they begin with it exactly where it is listed.
use Rattle.std.specs.Prelude.{None, Option, Some}
use Prim.Native.Nat.{ℕ, suc, ◌+◌, ◌-◌, ◌*◌, ◌≤◌, ◌<◌}
use mathlib.Core.Path.{◌≡◌, refl, sym, ap, ap₂, ◌∙◌, subst}
use mathlib.Core.Bool.{Bool, true, false, cond, ◌&&◌}
use mathlib.Core.List.{List, [], ◌∷◌, ◌++◌}
use native.Mathlib.Omega.{arith}
use lib.ListN.{length, get_or, take, drop, length-take, take-append-drop, get_or-append}
use lib.Seq.{take-append-add, take_at, get_or-take}
use lib.Dec.{eqb, leb}
use borrow.Author.Tests.{eqb-true, leb-true, leb-false}
use Rattle.laws.specs.First.{first_not}
use Rattle.laws.proofs.Booleans.{both_hold}
use Rattle.laws.proofs.FirstLaws.{first_within, pass_before, first_of_append}
use Rattle.laws.proofs.Listed.{listed_front}
use Rattle.digits.specs.Digit.{is_digit, value_of}
use Rattle.digits.proofs.DigitLaws.{digit_range}
use Rattle.identifiers.specs.declared.Kind.{Kind}
use Rattle.laws.specs.Among.{place_in, among}
use Rattle.identifiers.specs.Identifiers.{measures, table, kind_of, spelled, identifiers_of, listed, identifier_in}
use Rattle.identifiers.specs.Rows.{digits_after, with_kind, row_of, row_in, row_at}
use Rattle.identifiers.specs.Data.{pair_at}
use Rattle.laws.proofs.AmongLaws.{in_run, all, all_among}
use Rattle.identifiers.proofs.ListedLaws.{listed_if_kind, found_listed, listed_found}
use Rattle.identifiers.proofs.SpelledLaws.{number_from, number_of_spelled, spell_two, spell_three, spell_four}

-- what one computed test says of each listed identifier
pub record Spelling (x : ℕ) : Type 0 where
  pub all_digits : first_not is_digit (spelled x) ≡ length (spelled x)
  pub decided : digits_after (pair_at (spelled x) 0) ≡ length (spelled x)
  pub two : 2 ≤ length (spelled x)
  pub four : length (spelled x) ≤ 4
  pub small : x < 10000

spelling : ℕ → Bool
spelling x =
    eqb (first_not is_digit (spelled x)) (length (spelled x))
    && eqb (digits_after (pair_at (spelled x) 0)) (length (spelled x))
    && leb 2 (length (spelled x))
    && leb (length (spelled x)) 4
    && leb (suc x) 10000

all_spelled : all spelling listed ≡ true
unfolding spelling listed identifiers_of table measures spelled digits_after first_not place_in
all_spelled = refl

pub spelling_of : (x : ℕ) → among listed x ≡ true → Spelling x
unfolding spelling
spelling_of x e =
    let a = both_hold _ (leb (suc x) 10000) (all_among spelling listed all_spelled x e) in
    let b = both_hold _ (leb (length (spelled x)) 4) a.0 in
    let c = both_hold _ (leb 2 (length (spelled x))) b.0 in
    let d = both_hold (eqb (first_not is_digit (spelled x)) (length (spelled x))) (eqb (digits_after (pair_at (spelled x) 0)) (length (spelled x))) c.0 in
    record { all_digits = eqb-true _ _ d.0; decided = eqb-true _ _ d.1; two = leb-true _ _ c.1; four = leb-true _ _ b.1; small = leb-true _ _ a.1 }

-- so a number of five digits or more has no kind
pub no_kind_of_large : (n : ℕ) → 10000 ≤ n → kind_of n ≡ None
no_kind_of_large n h = go (kind_of n) refl
  where
    go : (o : Option Kind) → kind_of n ≡ o → o ≡ None
    go None p = refl
    go (Some kind) p = absurd (omega (arith, (spelling_of n (listed_if_kind n kind p)).small))

-- what is known of bytes that begin with a listed identifier
pub record Begun (bytes : List ℕ) (x : ℕ) : Type 0 where
  pub spelling : Spelling x
  pub decided : digits_after (pair_at bytes 0) ≡ length (spelled x)
  pub front : take (length (spelled x)) bytes ≡ spelled x
  pub run : length (spelled x) ≤ first_not is_digit (take 4 bytes)

begun_of : (x : ℕ) (rest : List ℕ) → among listed x ≡ true → Begun (spelled x ++ rest) x
begun_of x rest e =
    let s = spelling_of x e in
    let first : get_or (spelled x ++ rest) 0 0 ≡ get_or (spelled x) 0 0 = get_or-append (spelled x) rest 0 0 (omega (arith, s.two)) in
    let second : get_or (spelled x ++ rest) 1 0 ≡ get_or (spelled x) 1 0 = get_or-append (spelled x) rest 0 1 (omega (arith, s.two)) in
    let count : length (spelled x) + (4 - length (spelled x)) ≡ 4 = omega (arith, s.four) in
    let four : take 4 (spelled x ++ rest) ≡ spelled x ++ take (4 - length (spelled x)) rest = ap (λ (n : ℕ). take n (spelled x ++ rest)) (sym count) ∙ take-append-add (spelled x) rest (4 - length (spelled x)) in
    record {
      spelling = s;
      decided = ap₂ (λ (a b : ℕ). digits_after (10 * value_of a + value_of b)) first second ∙ s.decided;
      front = take_at (spelled x) rest (length (spelled x)) refl;
      run = rw four (omega (arith, first_of_append is_digit (spelled x) (take (4 - length (spelled x)) rest) s.all_digits));
    }

pub begun : (bytes : List ℕ) (x : ℕ) → identifier_in bytes ≡ Some x → Begun bytes x
begun bytes x e =
    let found = listed_found bytes x e in
    subst (λ (b : List ℕ). Begun b x) (sym found.1) (begun_of x (drop (length (spelled x)) bytes) found.0)

-- too few digits for the first two
pub too_short : (bytes : List ℕ) → first_not is_digit (take 4 bytes) < digits_after (pair_at bytes 0) → row_at bytes ≡ None
unfolding row_at
too_short bytes h = go (identifier_in bytes) refl
  where
    go : (o : Option ℕ) → identifier_in bytes ≡ o → row_in o ≡ None
    go None e = refl
    go (Some x) e = absurd (let b = begun bytes x e in omega (arith, b.decided, b.run))

-- else the number of so many digits decides
pub decided : (bytes : List ℕ) (n : ℕ) → n < 10000 → spelled n ≡ take (digits_after (pair_at bytes 0)) bytes → row_at bytes ≡ row_of n
unfolding row_at row_of
decided bytes n small e = go (identifier_in bytes) refl (kind_of n) refl
  where
    go : (o : Option ℕ) → identifier_in bytes ≡ o → (k : Option Kind) → kind_of n ≡ k → row_in o ≡ with_kind n k
    go (Some x) p k q =
        let b = begun bytes x p in
        let digits : spelled n ≡ spelled x = e ∙ ap (λ (c : ℕ). take c bytes) b.decided ∙ b.front in
        let own : n ≡ x = sym (number_of_spelled n small) ∙ ap (number_from 0) digits ∙ number_of_spelled x b.spelling.small in
        rw (← own) (ap (with_kind n) q)
    go None p None q = refl
    go None p (Some kind) q =
        let found : identifier_in bytes ≡ Some n =
        ap identifier_in (sym (take-append-drop (digits_after (pair_at bytes 0)) bytes) ∙ ap (λ (front : List ℕ). front ++ drop (digits_after (pair_at bytes 0)) bytes) (sym e))
        ∙ found_listed n (drop (digits_after (pair_at bytes 0)) bytes) (listed_if_kind n kind q) in
        absurd (let z : ◌≡◌ {A = ℕ} 0 1 = cc in omega arith)

-- there are two digits at least, and four at most; more than two only from 10 on
pub after_bounds : (p : ℕ) → (2 ≤ digits_after p) × (digits_after p ≤ 4)
unfolding digits_after
after_bounds p = go (among (24 ∷ 25 ∷ 40 ∷ 41 ∷ []) p) (eqb p 31)
  where
    go : (a b : Bool) → (2 ≤ cond a 3 (cond b 4 2)) × (cond a 3 (cond b 4 2) ≤ 4)
    go true b = (omega arith, omega arith)
    go false true = (omega arith, omega arith)
    go false false = (omega arith, omega arith)

after_low : (p : ℕ) → 2 < digits_after p → 10 ≤ p
unfolding digits_after place_in first_not
after_low p h = go (leb 10 p) refl
  where
    go : (b : Bool) → leb 10 p ≡ b → 10 ≤ p
    go true e = leb-true 10 p e
    go false e =
        let below : p < 10 = leb-false 10 p e in
        absurd (omega (arith, eqb-true (digits_after p) 2 (in_run (λ (q : ℕ). eqb (digits_after q) 2) 0 10 true tt p (omega arith) (omega arith))))

module _ (bytes : List ℕ) where
  pub run_within : first_not is_digit (take 4 bytes) ≤ length bytes
  run_within = omega (arith, first_within is_digit (take 4 bytes), length-take 4 bytes)

  pub leading_digit : (i : ℕ) → i < first_not is_digit (take 4 bytes) → is_digit (get_or bytes i 0) ≡ true
  leading_digit i h =
      let four : i < 4 = omega (arith, first_within is_digit (take 4 bytes), length-take 4 bytes) in
      rw (get_or-take 4 bytes i 0 four) at (pass_before is_digit (take 4 bytes) i 0 h)

  abbrev pair : ℕ
  pair = pair_at bytes 0

  pub decided_by_two : 2 ≤ first_not is_digit (take 4 bytes) → digits_after pair ≡ 2 → row_at bytes ≡ row_of pair
  decided_by_two h e =
      let within = run_within in
      let zeroth = leading_digit 0 (omega arith) in
      let first = leading_digit 1 (omega arith) in
      let small : pair < 10000 = omega (arith, digit_range (get_or bytes 0 0) zeroth, digit_range (get_or bytes 1 0) first) in
      decided bytes pair small (spell_two (get_or bytes 0 0) (get_or bytes 1 0) zeroth first ∙ listed_front 2 bytes (omega arith) ∙ sym (ap (λ (n : ℕ). take n bytes) e))

  pub decided_by_three : 3 ≤ first_not is_digit (take 4 bytes) → digits_after pair ≡ 3 → row_at bytes ≡ row_of (10 * pair + value_of (get_or bytes 2 0))
  decided_by_three h e =
      let within = run_within in
      let zeroth = leading_digit 0 (omega arith) in
      let first = leading_digit 1 (omega arith) in
      let second = leading_digit 2 (omega arith) in
      let small : 10 * pair + value_of (get_or bytes 2 0) < 10000 = omega (arith, digit_range (get_or bytes 0 0) zeroth, digit_range (get_or bytes 1 0) first, digit_range (get_or bytes 2 0) second) in
      decided bytes (10 * pair + value_of (get_or bytes 2 0)) small
      (spell_three (get_or bytes 0 0) (get_or bytes 1 0) (get_or bytes 2 0) zeroth first second (after_low pair (omega arith)) ∙ listed_front 3 bytes (omega arith) ∙ sym (ap (λ (n : ℕ). take n bytes) e))

  pub decided_by_four : 4 ≤ first_not is_digit (take 4 bytes) → digits_after pair ≡ 4 → row_at bytes ≡ row_of (100 * pair + pair_at bytes 2)
  decided_by_four h e =
      let within = run_within in
      let zeroth = leading_digit 0 (omega arith) in
      let first = leading_digit 1 (omega arith) in
      let second = leading_digit 2 (omega arith) in
      let third = leading_digit 3 (omega arith) in
      let small : 100 * pair + pair_at bytes 2 < 10000 = omega (arith, digit_range (get_or bytes 0 0) zeroth, digit_range (get_or bytes 1 0) first, digit_range (get_or bytes 2 0) second, digit_range (get_or bytes 3 0) third) in
      decided bytes (100 * pair + pair_at bytes 2) small
      (spell_four (get_or bytes 0 0) (get_or bytes 1 0) (get_or bytes 2 0) (get_or bytes 3 0) zeroth first second third (after_low pair (omega arith)) ∙ listed_front 4 bytes (omega arith) ∙ sym (ap (λ (n : ℕ). take n bytes) e))
