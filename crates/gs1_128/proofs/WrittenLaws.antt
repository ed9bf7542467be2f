-- The rule of writing, line by line: what the test of the message refuses, and what it lets through; and the characters of a best spelling
-- all have patterns.
use Prim.Native.Nat.{ℕ}
use mathlib.Core.Path.{◌≡◌, sym, subst}
use mathlib.Core.List.{List, ◌∷◌, ◌++◌}
use native.Mathlib.Omega.{arith}
use Rattle.laws.specs.Below.{Below}
use Rattle.laws.proofs.BelowLaws.{below_more}
use Rattle.refusal.specs.declared.Refusal.{Refusal}
use Rattle.refusal.specs.Outcome.{made, refused}
use Rattle.refusal.specs.Fills.{laying}
use Rattle.elements.specs.declared.Element.{Element}
use Rattle.elements.specs.Strings.{tested}
use Rattle.elements.proofs.FromRule.{Accepted}
use Rattle.patterns.specs.Patterns.{drawn}
use Rattle.code128.specs.Characters.{patterns, stop}
use Rattle.spelling.specs.Best.{best_spelling}
use Rattle.code_sets.specs.Spelling.{Spelled}
use Rattle.spelling.proofs.BestSpelled.{best_is_spelled}
use Rattle.gs1_128.specs.Symbol.{checked, symbol_of}
use Rattle.gs1_128.specs.Rules.{writes}
use Rattle.gs1_128.proofs.CheckedLaws.{below_checked}

module _ (message : List ℕ) (room : ℕ) where
  pub write_refused : (f : Refusal) → tested message ≡ refused f → writes message room ≡ refused f
  unfolding writes
  write_refused f e = rw e

  pub write_made : (strings : List Element) → tested message ≡ made strings → writes message room ≡ laying (symbol_of (best_spelling message)) room
  unfolding writes
  write_made strings e = rw e

module _ (message : List ℕ) {strings : List Element} (s : Accepted message strings) where
  spelled : Spelled (best_spelling message) message
  spelled = best_is_spelled message s.bytes

  pub characters_have_patterns : Below 106 (checked (best_spelling message))
  characters_have_patterns =
      subst (λ (l : List ℕ). Below 106 (checked l)) (sym spelled.is)
      (below_checked spelled.start (102 ∷ spelled.values) (omega (arith, spelled.most)) (below_more 103 102 spelled.values (omega arith) spelled.allowed))

  pub symbol_of_best : symbol_of (best_spelling message) ≡ drawn patterns (checked (best_spelling message)) ++ stop
  unfolding symbol_of
  symbol_of_best = rw spelled.is
