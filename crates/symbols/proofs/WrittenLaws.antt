-- Every width that is drawn has one digit, whatever the kind: each kind's own writer says so.
use Prim.Native.Nat.{ℕ}
use mathlib.Core.Path.{◌≡◌}
use mathlib.Core.List.{List}
use Rattle.laws.specs.Below.{Below}
use Rattle.refusal.specs.Outcome.{made}
use Rattle.ean13.proofs.Theorems as Ean13Theorems
use Rattle.ean8.proofs.Theorems as Ean8Theorems
use Rattle.upc_e.proofs.Theorems as UpcETheorems
use Rattle.itf14.proofs.Theorems as Itf14Theorems
use Rattle.gs1_128.proofs.ComesBack as Gs1Theorems
use Rattle.symbols.specs.declared.Kind.{Kind}
use Rattle.symbols.specs.declared.Kind.TheVariants.{Ean13, Ean8, UpcE, Itf14, Gs1128}
use Rattle.symbols.specs.Kinds.{writes_as}

pub written_below : (kind : Kind) (content : List ℕ) (room : ℕ) (widths : List ℕ) → writes_as kind content room ≡ made widths → Below 10 widths
unfolding writes_as
written_below Ean13 content room widths e = Ean13Theorems.widths_below content widths room e
written_below Ean8 content room widths e = Ean8Theorems.widths_below content widths room e
written_below UpcE content room widths e = UpcETheorems.widths_below content widths room e
written_below Itf14 content room widths e = Itf14Theorems.widths_below content widths room e
written_below Gs1128 content room widths e = Gs1Theorems.widths_below content widths room e
