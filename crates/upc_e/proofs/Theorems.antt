-- UPC-E, there and back, on the rules of its calls: what is written is read as the number, since its short number stands for it; and what is
-- read is written as the list that was read, since it is its own. So one number has one symbol, and one symbol one number.
use Prim.Native.Nat.{ℕ, ◌+◌, ◌≤◌}
use mathlib.Core.Path.{◌≡◌, sym, ap, subst, ◌∙◌}
use mathlib.Core.Bool.{true}
use mathlib.Core.List.{List, map}
use native.Mathlib.Omega.{arith}
use lib.ListN.{length, length-map}
use Rattle.laws.specs.Below.{Below}
use Rattle.refusal.specs.declared.Refusal.TheVariants.{CheckDigit, Condensed}
use Rattle.refusal.specs.Outcome.{made}
use Rattle.refusal.proofs.OutcomeLaws.{made_same, must_made, bind_made}
use Rattle.refusal.proofs.FillsLaws.{laying_made, made_of_laying}
use Rattle.digits.specs.Digit.{value_of}
use Rattle.digits.specs.Check.{is_right, right_number}
use Rattle.digits.specs.Numbered.{byte_of}
use Rattle.digits.proofs.NumberedLaws.{RightNumber, right_made, right_of_parts, values_are_digits, bytes_of_values, values_of_bytes, bytes_are_digits}
use Rattle.upc_e.specs.Condensing.{expanded, condensed, is_own}
use Rattle.upc_e.specs.UpcE.{symbol, scanned, writes, reads}
use Rattle.upc_e.proofs.CondensingLaws.{length_of_expanded, expanded_below, condensed_made, condensed_below}
use Rattle.upc_e.proofs.FalseSymbols.{own_exactly}
use Rattle.upc_e.proofs.SymbolLaws as Symbol

-- what is known of a number that was written: it is right, and condensed to what was drawn
record Written (number widths short : List ℕ) : Type 0 where
  right : RightNumber 12 number (map value_of number)
  condenses : condensed (map value_of number) ≡ made short
  drawn : symbol short ≡ widths

written : (number widths : List ℕ) (room : ℕ) → writes number room ≡ made widths → (short : List ℕ) × Written number widths short
unfolding writes
written number widths room e =
    let d = bind_made (right_number 12 number) _ widths e in
    let s = bind_made (condensed d.0) _ widths d.2 in
    let known = right_made 12 number d.0 d.1 in (
      s.0,
      record {
        right = subst (λ (ds : List ℕ). RightNumber 12 number ds) known.values known;
        condenses = ap condensed (sym known.values) ∙ s.1;
        drawn = (made_of_laying (symbol s.0) widths room s.2).1;
      },
    )

-- and of one that was read: it stands for what was scanned, which is right and its own
pub record IsRead (widths number short : List ℕ) : Type 0 where
  pub found : scanned widths ≡ made short
  pub right : is_right (expanded short) ≡ true
  pub own : condensed (expanded short) ≡ made short
  pub bytes : map byte_of (expanded short) ≡ number

pub is_read : (widths number : List ℕ) (room : ℕ) → reads widths room ≡ made number → (short : List ℕ) × IsRead widths number short
unfolding reads
is_read widths number room e =
    let s = bind_made (scanned widths) _ number e in
    let right = must_made (is_right (expanded s.0)) CheckDigit _ number s.2 in
    let own = must_made (is_own s.0) Condensed _ number right.1 in (
      s.0,
      record {
        found = s.1;
        right = right.0;
        own = (own_exactly s.0).0 own.0;
        bytes = (made_of_laying (map byte_of (expanded s.0)) number room own.1).1;
      },
    )

-- the short number of one that was written
module _ (number widths : List ℕ) (room : ℕ) (e : writes number room ≡ made widths) where
  abbrev short_of : List ℕ
  short_of = (written number widths room e).0

  known : Written number widths short_of
  known = (written number widths room e).1

  stands : (expanded short_of ≡ map value_of number) × (length short_of ≡ 7)
  stands = condensed_made (map value_of number) short_of known.condenses

  digits_below : Below 10 short_of
  digits_below = condensed_below (map value_of number) short_of known.condenses (values_are_digits number known.right.all)

-- and of one that was read; what it stands for is the number's digits
module _ (widths number : List ℕ) (room : ℕ) (e : reads widths room ≡ made number) where
  abbrev short_in : List ℕ
  short_in = (is_read widths number room e).0

  known_read : IsRead widths number short_in
  known_read = (is_read widths number room e).1

  pub right_of_read : RightNumber 12 number (expanded short_in)
  right_of_read =
      let below = expanded_below short_in (Symbol.symbol_of_scan widths short_in known_read.found).2 in
      subst (λ (bytes : List ℕ). RightNumber 12 bytes (expanded short_in)) known_read.bytes
      (record {
        counted = length-map (expanded short_in) byte_of ∙ length_of_expanded short_in;
        all = bytes_are_digits (expanded short_in) below;
        values = sym (values_of_bytes (expanded short_in));
        right = known_read.right;
      })

pub read_of_write : (number widths : List ℕ) (room room' : ℕ) → writes number room ≡ made widths → 12 ≤ room' → reads widths room' ≡ made number
unfolding reads
read_of_write number widths room room' e fits =
    let was = known number widths room e in
    let short = stands number widths room e in
    let found = ap scanned (sym was.drawn) ∙ Symbol.scan_of_symbol _ short.1 (digits_below number widths room e) in
    let own = (own_exactly _).1 (ap condensed short.0 ∙ was.condenses) in
    rw (found, own, short.0, was.right.right)
    (laying_made (map byte_of (map value_of number)) room' (simp length-map (omega (arith, was.right.counted))) ∙ ap made (bytes_of_values number was.right.all))

pub write_of_read : (widths number : List ℕ) (room room' : ℕ) → reads widths room ≡ made number → length widths ≤ room' → writes number room' ≡ made widths
unfolding writes
write_of_read widths number room room' e fits =
    let was = known_read widths number room e in
    let again = (Symbol.symbol_of_scan widths _ was.found).0 in
    rw (right_of_parts 12 number _ (right_of_read widths number room e), was.own, again) (laying_made widths room' fits)

-- equal numbers have equal bars, whatever the room
pub equal_bars : (number widths widths' : List ℕ) (room room' : ℕ) → writes number room ≡ made widths → writes number room' ≡ made widths' → widths ≡ widths'
equal_bars number widths widths' room room' e e' =
    let was = known number widths room e in
    let other = known number widths' room' e' in
    sym was.drawn ∙ ap symbol (made_same _ _ (sym was.condenses ∙ other.condenses)) ∙ other.drawn

-- no two numbers have the same bars
pub one_number : (number number' widths : List ℕ) (room room' : ℕ) → writes number room ≡ made widths → writes number' room' ≡ made widths → number ≡ number'
one_number number number' widths room room' e e' =
    made_same number number' (sym (read_of_write number widths room 12 e (omega arith)) ∙ read_of_write number' widths room' 12 e' (omega arith))

-- no two lists are read as one number
pub one_list : (widths widths' number : List ℕ) (room room' : ℕ) → reads widths room ≡ made number → reads widths' room' ≡ made number → widths ≡ widths'
one_list widths widths' number room room' e e' =
    let most = length widths + length widths' in
    made_same widths widths'
    (sym (write_of_read widths number room most e (omega arith)) ∙ write_of_read widths' number room' most e' (omega arith))

-- "33 widths"
pub length_of_symbol : (number widths : List ℕ) (room : ℕ) → writes number room ≡ made widths → length widths ≡ 33
length_of_symbol number widths room e =
    ap length (sym (known number widths room e).drawn) ∙ Symbol.length_of_symbol _ (stands number widths room e).1 (digits_below number widths room e)

-- every width has one digit
pub widths_below : (number widths : List ℕ) (room : ℕ) → writes number room ≡ made widths → Below 10 widths
widths_below number widths room e = subst (Below 10) (known number widths room e).drawn (Symbol.widths_below (short_of number widths room e))
