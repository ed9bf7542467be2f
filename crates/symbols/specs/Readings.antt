-- The reading of an unnamed list: the kind that is named, and what the list holds read as that kind.
use Rattle.std.specs.Prelude.{ℕ, ◌≡◌, List, length, Result, Ok, Err}
use Rattle.refusal.specs.Outcome.{Outcome, made, refused, ◌>>=◌}
use Rattle.refusal.specs.Fills.{laid}
use Rattle.symbols.specs.declared.Kind.{Kind}
use Rattle.refusal.specs.declared.Refusal.{Refusal}
use Rattle.symbols.specs.Kinds.{kind_of, reads_as}

unfoldable pub reads : List ℕ → ℕ → Outcome (Kind × List ℕ)
reads widths room = do
  kind ← kind_of widths
  bytes ← reads_as kind widths room
  made (kind, bytes)

-- a call whose rule makes a kind and bytes answers the kind and their count
abbrev pub reading_of : Outcome (Kind × List ℕ) → Result (Kind × ℕ) Refusal
reading_of (made read) = Ok (read.0, length read.1)
reading_of (refused f) = Err f

abbrev pub bytes_of : Outcome (Kind × List ℕ) → Outcome (List ℕ)
bytes_of (made read) = made read.1
bytes_of (refused f) = refused f

-- a call that was lent `before` answers r and leaves `after`: document 01's promise of a lent list, with the kind beside the count
pub record FillsNamed (o : Outcome (Kind × List ℕ)) (before : List ℕ) (r : Result (Kind × ℕ) Refusal) (after : List ℕ) : Type 0 where
  pub answer : r ≡ reading_of o
  pub lent : after ≡ laid (bytes_of o) before
