-- Theorem 2's definition: what a right GS1-128 symbol is, and of which message. Every legal spelling makes one: any start, shifts and
-- needless changes of set included.
use Rattle.std.specs.Prelude.{ℕ, ◌≤◌, ◌≡◌, List, ◌∷◌, length}
use Rattle.laws.specs.Below.{Below}
use Rattle.elements.specs.Messages.{ElementString, IsMessage}
use Rattle.code_sets.specs.Spelling.{Spells}
use Rattle.code_sets.specs.Reading.{start_set}
use Rattle.gs1_128.specs.Symbol.{symbol_of}

pub record IsSymbol (widths message : List ℕ) : Type 0 where
  pub start : ℕ
  pub values : List ℕ
  pub strings : List ElementString
  pub least_start : 103 ≤ start
  pub most_start : start ≤ 105
  -- n is one more, by the first FNC1
  pub least : 1 ≤ length values
  pub most : length values ≤ 99
  pub allowed : Below 103 values
  pub spelled : Spells (start_set start) values message
  pub right : IsMessage message strings
  pub drawn : widths ≡ symbol_of (start ∷ 102 ∷ values)
