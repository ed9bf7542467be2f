-- An unnamed list is read exactly as the kind whose own reader reads it, and no list is read as two kinds: a list that a kind reads is named
-- as that kind.
use Prim.Native.Nat.{ℕ}
use mathlib.Core.Path.{◌≡◌, sym, ap, ◌∙◌}
use mathlib.Core.List.{List}
use mathlib.Core.Logic.{◌↔◌}
use Rattle.refusal.specs.declared.Refusal.{Refusal}
use Rattle.refusal.specs.Outcome.{made, refused, ◌>>=◌}
use Rattle.refusal.proofs.OutcomeLaws.{made_same, bind_made}
use Rattle.symbols.specs.declared.Kind.{Kind}
use Rattle.symbols.specs.Kinds.{kind_of, reads_as}
use Rattle.symbols.specs.Readings.{reads}
use Rattle.symbols.proofs.KindLaws.{named_if_read}

module _ (widths : List ℕ) (room : ℕ) where
  -- a list is read as the kind that it is named
  pub read_as_named : (kind : Kind) → kind_of widths ≡ made kind → reads widths room ≡ (reads_as kind widths room >>= (λ (bytes : List ℕ). made (kind, bytes)))
  unfolding reads
  read_as_named kind e = rw e

  pub refused_if_unnamed : (f : Refusal) → kind_of widths ≡ refused f → reads widths room ≡ refused f
  unfolding reads
  refused_if_unnamed f e = rw e

  pub read_exactly_as_kind : (kind : Kind) (bytes : List ℕ) → (reads widths room ≡ made (kind, bytes)) ↔ (reads_as kind widths room ≡ made bytes)
  unfolding reads
  read_exactly_as_kind kind bytes = (there, back)
    where
      there : reads widths room ≡ made (kind, bytes) → reads_as kind widths room ≡ made bytes
      there e =
          let named = bind_made (kind_of widths) _ (kind, bytes) e in
          let read = bind_made (reads_as named.0 widths room) _ (kind, bytes) named.2 in
          let both = made_same (named.0, read.0) (kind, bytes) read.2 in
          ap (λ (k : Kind). reads_as k widths room) (sym (ap (λ (r : Kind × List ℕ). r.0) both)) ∙ read.1 ∙ ap made (ap (λ (r : Kind × List ℕ). r.1) both)

      back : reads_as kind widths room ≡ made bytes → reads widths room ≡ made (kind, bytes)
      back e = rw (named_if_read widths kind room bytes e, e)

-- no list is read as two kinds
pub one_kind : (widths : List ℕ) (kind kind' : Kind) (room room' : ℕ) (bytes bytes' : List ℕ) → reads_as kind widths room ≡ made bytes → reads_as kind' widths room' ≡ made bytes' → kind ≡ kind'
one_kind widths kind kind' room room' bytes bytes' e e' =
    made_same kind kind' (sym (named_if_read widths kind room bytes e) ∙ named_if_read widths kind' room' bytes' e')
