-- A reading that names its kind, where the list's kind is known: its line is that of the kind's own reader, with the kind's name between.
use Prim.Native.Nat.{ℕ}
use mathlib.Core.Path.{◌≡◌, refl, ap, ◌∙◌}
use mathlib.Core.List.{List}
use Rattle.refusal.specs.Outcome.{Outcome, made, refused, ◌>>=◌}
use Rattle.symbols.specs.declared.Kind.{Kind}
use Rattle.symbols.specs.Kinds.{kind_of, reads_as}
use Rattle.symbols.specs.Readings.{reads}
use Rattle.symbols.proofs.Theorems.{read_as_named}
use Rattle.answers.specs.declared.Form.TheVariants.{Bytes as AsBytes}
use Rattle.answers.specs.Lines.{line_of}
use Rattle.calls.specs.Answers.{kind_name, named_line}

pub named_line_lem : (widths : List ℕ) (room : ℕ) (kind : Kind) → kind_of widths ≡ made kind → named_line (reads widths room) ≡ line_of AsBytes (kind_name kind) (reads_as kind widths room)
named_line_lem widths room kind e = ap named_line (read_as_named widths room kind e) ∙ go (reads_as kind widths room)
  where
    go : (o : Outcome (List ℕ)) → named_line (o >>= (λ (bytes : List ℕ). made (kind, bytes))) ≡ line_of AsBytes (kind_name kind) o
    go (made bytes) = refl
    go (refused f) = refl
