-- The starts are the patterns from 103 on, and the patterns allowed after the start are those before: so the value that widths have in the
-- whole table, where no two patterns are equal, says which they have in either part.
use Rattle.std.specs.Prelude.{Some, None}
use Prim.Native.Nat.{ℕ, ◌+◌, ◌≤◌, ◌<◌, min}
use mathlib.Core.Path.{◌≡◌, refl, sym, ◌∙◌}
use mathlib.Core.Bool.{not}
use mathlib.Core.List.{List, []}
use native.Mathlib.Omega.{arith}
use lib.ListN.{length, get_or}
use lib.Seq.{get_or-drop}
use borrow.Author.Tests.{lt-ltb}
use Rattle.laws.proofs.FirstLaws.{first_of_take, first_of_drop}
use Rattle.patterns.specs.Patterns.{same, value_in}
use Rattle.patterns.specs.Matching.{match_in}
use Rattle.patterns.proofs.PatternLaws.{value_of, value_none}
use Rattle.code128.specs.Characters.{patterns}
use Rattle.code128.proofs.PatternLaws.{patterns_are, distinct_test}
use Rattle.gs1_128.specs.Symbol.{starts, allowed}

pub allowed_are : length allowed ≡ 103
unfolding patterns
allowed_are = refl

pub starts_are : length starts ≡ 3
unfolding patterns
starts_are = refl

module _ (widths : List ℕ) where
  abbrev value : ℕ
  value = value_in patterns widths

  value_allowed : value_in allowed widths ≡ min 103 value
  unfolding value_in
  value_allowed = first_of_take (λ (pattern : List ℕ). not (same pattern widths)) 103 patterns

  pub value_start : 103 ≤ value → value ≡ 103 + value_in starts widths
  unfolding value_in
  value_start h = first_of_drop (λ (pattern : List ℕ). not (same pattern widths)) 103 patterns h

  pub no_start : value < 103 → value_in starts widths ≡ 3
  no_start h =
      value_none starts widths
      (λ v below e.
      let few : v < 3 = rw starts_are at below in
      let row : get_or patterns (103 + v) [] ≡ widths = sym (get_or-drop 103 patterns v []) ∙ e in
      let whole : value ≡ 103 + v = value_of patterns distinct_test (103 + v) widths (rw patterns_are (omega arith)) row in
      omega arith)
      ∙ starts_are

  -- after the start
  pub allowed_found : (v : ℕ) → value ≡ v → v < 103 → Some v ≡ match_in allowed widths
  allowed_found v is h =
      let here : value_in allowed widths ≡ v = omega (arith, value_allowed) in
      rw (here, allowed_are, lt-ltb v 103 h)

  pub allowed_missing : 103 ≤ value → None ≡ match_in allowed widths
  allowed_missing h =
      let none : value_in allowed widths ≡ 103 = omega (arith, value_allowed) in
      rw (none, allowed_are)
