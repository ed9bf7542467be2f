-- The joint call is naming and reading: what the naming refuses is refused, and what the kind's reader answers is the reading, with the kind
-- beside the count.
use Rattle.std.specs.Prelude.{Ok, Err}
use Prim.Native.Nat.{ℕ}
use mathlib.Core.Path.{◌≡◌, refl, ap}
use mathlib.Core.List.{List}
use lib.ListN.{length}
use native.Mathlib.Omega.{arith}
use Rattle.refusal.specs.declared.Refusal.{Refusal}
use Rattle.refusal.specs.Outcome.{Outcome, made, refused, ◌>>=◌}
use Rattle.refusal.specs.Fills.{Fills}
use Rattle.symbols.specs.declared.Kind.{Kind}
use Rattle.symbols.specs.Kinds.{kind_of, reads_as}
use Rattle.symbols.specs.Readings.{reads, FillsNamed}
use Rattle.symbols.proofs.Theorems.{read_as_named, refused_if_unnamed}

module _ (widths : List ℕ) (room : ℕ) (before : List ℕ) where
  pub named_refused : (f : Refusal) → kind_of widths ≡ refused f → FillsNamed (reads widths room) before (Err f) before
  named_refused f e = rw (refused_if_unnamed widths room f e) (record { answer = refl; lent = refl })

  module _ (kind : Kind) (named : kind_of widths ≡ made kind) (after : List ℕ) where
    pub read_refused : (f : Refusal) → Fills (reads_as kind widths room) before (Err f) after → FillsNamed (reads widths room) before (Err f) after
    read_refused f h = rw (read_as_named widths room kind named) (go (reads_as kind widths room) h)
      where
        go : (o : Outcome (List ℕ)) → Fills o before (Err f) after → FillsNamed (o >>= (λ (bytes : List ℕ). made (kind, bytes))) before (Err f) after
        go (made bytes) h = absurd (let e = h.answer in let z : ◌≡◌ {A = ℕ} 0 1 = cc in omega arith)
        go (refused g) h = record { answer = let e = h.answer in cc; lent = h.lent }

    pub read_made : (n : ℕ) → Fills (reads_as kind widths room) before (Ok n) after → FillsNamed (reads widths room) before (Ok (kind, n)) after
    read_made n h = rw (read_as_named widths room kind named) (go (reads_as kind widths room) h)
      where
        go : (o : Outcome (List ℕ)) → Fills o before (Ok n) after → FillsNamed (o >>= (λ (bytes : List ℕ). made (kind, bytes))) before (Ok (kind, n)) after
        go (made bytes) h = record { answer = let e = h.answer in let same : n ≡ length bytes = cc in ap (λ (k : ℕ). Ok (kind, k)) same; lent = h.lent }
        go (refused g) h = absurd (let e = h.answer in let z : ◌≡◌ {A = ℕ} 0 1 = cc in omega arith)
