-- Characters drawn at the front of a list and the stop after them: they fill it as far as the widths of the symbol go.
use Prim.Native.Nat.{ℕ, ◌+◌, ◌*◌}
use mathlib.Core.Path.{◌≡◌, ap, ◌∙◌}
use mathlib.Core.List.{List, [], ◌∷◌, ◌++◌}
use lib.ListN.{length, length-append}
use Rattle.laws.specs.Below.{Below}
use Rattle.laws.proofs.BelowLaws.{below_of_nil, below_append}
use Rattle.patterns.specs.Patterns.{drawn}
use Rattle.patterns.proofs.CharacterLaws.{length_of_drawn}
use Rattle.patterns.proofs.DrawnBelow.{row_below, drawn_below}
use Rattle.code128.specs.Characters.{patterns, stop}
use Rattle.code128.proofs.PatternLaws.{patterns_are, patterns_sized}
use Rattle.gs1_128.specs.Symbol.{symbol_of}

module _ (characters : List ℕ) (below : Below 106 characters) where
  pub length_drawn : length (drawn patterns characters) ≡ 6 * length characters
  length_drawn = length_of_drawn patterns 6 patterns_sized characters (rw patterns_are below)

  pub length_stopped : length (drawn patterns characters ++ stop) ≡ 6 * length characters + 7
  length_stopped = length-append (drawn patterns characters) stop ∙ ap (λ (n : ℕ). n + 7) length_drawn

-- every width has one digit
pub symbol_below : (spelling : List ℕ) → Below 10 (symbol_of spelling)
unfolding symbol_of patterns
symbol_below [] = below_of_nil 10
symbol_below (start ∷ values) = below_append 10 (drawn patterns _) stop (drawn_below 10 patterns tt _) (row_below 10 stop tt)
