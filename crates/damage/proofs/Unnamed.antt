-- Theorem 6 for an unnamed list: a right GS1-128 symbol that was damaged once is read as no kind. Its count is never that of an EAN-13, a
-- UPC-E or an ITF-14; where it is named an EAN-8, its first width has become 1 and its last is still 2, so that the guard at the end is wrong.
use Prim.Native.Nat.{ℕ}
use mathlib.Core.Path.{◌≡◌, sym, ◌∙◌}
use mathlib.Core.List.{List}
use lib.ListN.{length}
use borrow.Author.Tests.{eqb-true}
use Rattle.refusal.specs.declared.Refusal.{Refusal}
use Rattle.refusal.specs.Outcome.{made, refused}
use Rattle.refusal.proofs.OutcomeLaws.{made_not_refused, refused_unless_made}
use Rattle.gs1_128.specs.Right.{IsSymbol}
use Rattle.damage.specs.Damage.{Damaged}
use Rattle.damage.proofs.Damage.{call_refuses_damaged}
use Rattle.damage.proofs.DamageEnds.{damaged_count, damaged_guard}
use Rattle.symbols.specs.declared.Kind.{Kind}
use Rattle.symbols.specs.declared.Kind.TheVariants.{Ean13, Ean8, UpcE, Itf14, Gs1128}
use Rattle.symbols.specs.Kinds.{reads_as}
use Rattle.symbols.specs.Readings.{reads}
use Rattle.symbols.proofs.KindLaws.{count_of_read, ends8}
use Rattle.symbols.proofs.Theorems.{read_exactly_as_kind}

module _ {widths message damaged : List ℕ} (s : IsSymbol widths message) (d : Damaged s damaged) (room : ℕ) where
  no_kind_reads : (kind : Kind) (bytes : List ℕ) → reads_as kind damaged room ≡ made bytes → ⊥
  unfolding reads_as
  no_kind_reads Ean13 bytes e = (damaged_count s d).0 (eqb-true (length damaged) 59 (count_of_read damaged Ean13 room bytes e))
  no_kind_reads Ean8 bytes e =
      let ends = ends8 damaged room bytes e in
      damaged_guard s d (eqb-true (length damaged) 43 (count_of_read damaged Ean8 room bytes e)) ends.0 ends.1
  no_kind_reads UpcE bytes e = (damaged_count s d).1 (eqb-true (length damaged) 33 (count_of_read damaged UpcE room bytes e))
  no_kind_reads Itf14 bytes e = (damaged_count s d).2 (eqb-true (length damaged) 77 (count_of_read damaged Itf14 room bytes e))
  no_kind_reads Gs1128 bytes e =
      let refusal = call_refuses_damaged s d room in
      made_not_refused bytes refusal.0 (sym e ∙ refusal.1)

  pub unnamed_refuses_damaged : (f : Refusal) × (reads damaged room ≡ refused f)
  unnamed_refuses_damaged =
      refused_unless_made (reads damaged room) (λ read e. no_kind_reads read.0 read.1 ((read_exactly_as_kind damaged room read.0 read.1).0 e))
