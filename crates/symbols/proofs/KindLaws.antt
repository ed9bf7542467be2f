-- What a list tells of its kind. Two kinds share a count only at 43, and there the first width decides: the guard of EAN-8 begins with 1,
-- and every start of GS1-128 with 2. So a list that a kind's own reader reads is named as that kind.
use Prim.Native.Nat.{ℕ, ◌-◌, ◌<◌}
use mathlib.Core.Path.{◌≡◌, refl, sym, ap, ◌∙◌}
use mathlib.Core.Bool.{Bool, true, false, ◌&&◌}
use mathlib.Core.List.{List, []}
use native.Mathlib.Omega.{arith}
use lib.ListN.{length, get_or, take, drop}
use lib.Seq.{get_or-take}
use lib.Dec.{eqb, ltb, eqb→eq}
use borrow.Author.Tests.{eq-eqb, ne_eqb, eqb-true, eqb-false, ltb-true}
use Rattle.laws.proofs.Booleans.{both_hold}
use Rattle.laws.proofs.Tables.{at_entry}
use Rattle.refusal.specs.declared.Refusal.TheVariants.{Count, Guard}
use Rattle.refusal.specs.Outcome.{made}
use Rattle.refusal.specs.Fills.{laying}
use Rattle.refusal.proofs.OutcomeLaws.{made_same, must_made, bind_made}
use Rattle.digits.specs.Numbered.{number_read}
use Rattle.patterns.specs.Patterns.{same, value_in}
use Rattle.patterns.proofs.PatternLaws.{same_true, pattern_at}
use Rattle.code128.specs.Characters.{patterns, stop}
use Rattle.ean_upc.specs.Tables.{guard, centre}
use Rattle.ean_upc.specs.Halves.{guarded as guarded_halves, halves_in}
use Rattle.ean8.specs.Ean8.{scanned as scanned8, reads as reads8}
use Rattle.ean13.proofs.Theorems as Ean13s
use Rattle.ean8.proofs.Theorems as Ean8s
use Rattle.upc_e.proofs.Theorems as UpcEs
use Rattle.itf14.proofs.Theorems as Itf14s
use Rattle.gs1_128.specs.Symbol.{permitted, starts}
use Rattle.gs1_128.specs.Scanning.{guarded, scanned}
use Rattle.gs1_128.specs.Rules as Gs1
use Rattle.gs1_128.proofs.ReadingLaws.{passed_scan}
use Rattle.gs1_128.proofs.TableLaws.{starts_are}
use Rattle.symbols.specs.declared.Kind.{Kind}
use Rattle.symbols.specs.declared.Kind.TheVariants.{Ean13, Ean8, UpcE, Itf14, Gs1128}
use Rattle.symbols.specs.Kinds.{has_count, kind_by, kind_of, reads_as}

not_permitted : (count other : ℕ) → permitted other ≡ false → permitted count ≡ true → count ≡ other → ⊥
not_permitted count other never has e =
    let both : permitted other ≡ true = ap permitted (sym e) ∙ has in
    let z : ◌≡◌ {A = ℕ} 0 1 = cc in
    omega arith

kind_of_count : (kind : Kind) (count first : ℕ) → has_count kind count ≡ true → (count ≡ 43 → ⊥) → kind_by count first ≡ made kind
kind_of_count Ean13 count first has other = rw has
kind_of_count Ean8 count first has other = absurd (other (eqb-true count 43 has))
kind_of_count UpcE count first has other = rw (eqb-true count 33 has)
kind_of_count Itf14 count first has other = rw (eqb-true count 77 has)
kind_of_count Gs1128 count first has other =
    rw (ne_eqb count 59 (not_permitted count 59 refl has), ne_eqb count 43 other, ne_eqb count 33 (not_permitted count 33 refl has), ne_eqb count 77 (not_permitted count 77 refl has), has)

-- kinds don't share a count but 43
pub one_kind_of_count : (kind kind' : Kind) (count : ℕ) → has_count kind count ≡ true → has_count kind' count ≡ true → (count ≡ 43 → ⊥) → kind ≡ kind'
one_kind_of_count kind kind' count has has' other =
    made_same kind kind' (sym (kind_of_count kind count 0 has other) ∙ kind_of_count kind' count 0 has' other)

-- every start begins with a bar of two modules
start_bar : (v : ℕ) → v < length starts → get_or (get_or starts v []) 0 0 ≡ 2
unfolding patterns
start_bar v h = eqb→eq _ 2 (at_entry (λ (k : ℕ) (pattern : List ℕ). eqb (get_or pattern 0 0) 2) [] starts tt v h)

module _ (widths : List ℕ) where
  -- an EAN-8 begins with a bar of one module, and ends with a guard
  pub ends8 : (room : ℕ) (bytes : List ℕ) → reads8 widths room ≡ made bytes → (get_or widths 0 0 ≡ 1) × (drop 40 widths ≡ guard)
  unfolding reads8 number_read scanned8 halves_in guarded_halves
  ends8 room bytes e =
      let read = bind_made (scanned8 widths) _ bytes e in
      let counted = must_made (eqb (length widths) 43) Count _ read.0 read.1 in
      let guards = must_made (guarded_halves 4 widths) Guard _ read.0 counted.1 in
      let two = both_hold (same (take 3 widths) guard && same (take 5 (drop 19 widths)) centre) (same (drop 40 widths) guard) guards.0 in
      let front = both_hold (same (take 3 widths) guard) (same (take 5 (drop 19 widths)) centre) two.0 in (
        sym (get_or-take 3 widths 0 0 (omega arith)) ∙ ap (λ (three : List ℕ). get_or three 0 0) (same_true (take 3 widths) guard front.0),
        same_true (drop 40 widths) guard two.1,
      )

  begins_with_start : guarded widths ≡ true → get_or widths 0 0 ≡ 2
  unfolding guarded
  begins_with_start e =
      let v = value_in starts (take 6 widths) in
      let front = both_hold (ltb v 3) (same (drop (length widths - 7) widths) stop) e in
      let below : v < length starts = rw starts_are (ltb-true v 3 front.0) in
      sym (get_or-take 6 widths 0 0 (omega arith)) ∙ ap (λ (six : List ℕ). get_or six 0 0) (sym (pattern_at starts (take 6 widths) below)) ∙ start_bar v below

  begins128 : (room : ℕ) (bytes : List ℕ) → Gs1.reads widths room ≡ made bytes → (permitted (length widths) ≡ true) × (get_or widths 0 0 ≡ 2)
  unfolding Gs1.reads Gs1.message_in
  begins128 room bytes e =
      let message = bind_made (Gs1.message_in widths) (λ (text : List ℕ). laying text room) bytes e in
      let symbol = bind_made (scanned widths) _ message.0 message.1 in
      let passed = passed_scan widths symbol.0 symbol.1 in
      (passed.counted, begins_with_start passed.ends)

  -- a list that a kind reads has its count: what is read, written, is the list
  pub count_of_read : (kind : Kind) (room : ℕ) (bytes : List ℕ) → reads_as kind widths room ≡ made bytes → has_count kind (length widths) ≡ true
  unfolding reads_as
  count_of_read Ean13 room bytes e = eq-eqb _ 59 (Ean13s.length_of_symbol bytes widths _ (Ean13s.write_of_read widths bytes room (length widths) e (omega arith)))
  count_of_read Ean8 room bytes e = eq-eqb _ 43 (Ean8s.length_of_symbol bytes widths _ (Ean8s.write_of_read widths bytes room (length widths) e (omega arith)))
  count_of_read UpcE room bytes e = eq-eqb _ 33 (UpcEs.length_of_symbol bytes widths _ (UpcEs.write_of_read widths bytes room (length widths) e (omega arith)))
  count_of_read Itf14 room bytes e = eq-eqb _ 77 (Itf14s.length_of_written bytes widths _ (Itf14s.write_of_read widths bytes room (length widths) e (omega arith)))
  count_of_read Gs1128 room bytes e = (begins128 room bytes e).0

  -- and at 43, its first width
  pub named_if_read : (kind : Kind) (room : ℕ) (bytes : List ℕ) → reads_as kind widths room ≡ made bytes → kind_of widths ≡ made kind
  unfolding reads_as kind_of
  named_if_read Ean13 room bytes e = rw (count_of_read Ean13 room bytes e)
  named_if_read Ean8 room bytes e = rw (eqb-true (length widths) 43 (count_of_read Ean8 room bytes e), (ends8 room bytes e).0)
  named_if_read UpcE room bytes e = rw (eqb-true (length widths) 33 (count_of_read UpcE room bytes e))
  named_if_read Itf14 room bytes e = rw (eqb-true (length widths) 77 (count_of_read Itf14 room bytes e))
  named_if_read Gs1128 room bytes e = go (begins128 room bytes e) (eqb (length widths) 43) refl
    where
      go : (permitted (length widths) ≡ true) × (get_or widths 0 0 ≡ 2) → (b : Bool) → eqb (length widths) 43 ≡ b → kind_by (length widths) (get_or widths 0 0) ≡ made Gs1128
      go begins true is = rw (eqb-true (length widths) 43 is, begins.1)
      go begins false is = kind_of_count Gs1128 (length widths) (get_or widths 0 0) begins.0 (eqb-false (length widths) 43 is)
