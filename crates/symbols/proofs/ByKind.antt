-- A call that takes a kind fills by the rule of the kind that it was found to be.
use Rattle.std.specs.Prelude.{Result}
use Prim.Native.Nat.{ℕ}
use mathlib.Core.Path.{◌≡◌, ap}
use mathlib.Core.List.{List}
use Rattle.refusal.specs.declared.Refusal.{Refusal}
use Rattle.refusal.specs.Outcome.{Outcome}
use Rattle.refusal.specs.Fills.{Fills}
use Rattle.refusal.proofs.FillsLaws.{fills_same}
use Rattle.symbols.specs.declared.Kind.{Kind}

module _ (rule : Kind → List ℕ → ℕ → Outcome (List ℕ)) where
  pub fills_for_kind : (kind k : Kind) (given : List ℕ) (room : ℕ) (before : List ℕ) (r : Result ℕ Refusal) (after : List ℕ) → kind ≡ k → Fills (rule k given room) before r after → Fills (rule kind given room) before r after
  fills_for_kind kind k given room before r after is = fills_same _ _ before r after (ap (λ (which : Kind). rule which given room) is)
