-- What document 01 says of the 106 patterns, each a test computed over the table: six widths each, 11 modules with an even bar sum, no two
-- equal, and none equal to the stop's first six widths.
use Prim.Native.Nat.{ℕ, ◌%◌, ◌<◌}
use mathlib.Core.Path.{◌≡◌, refl}
use mathlib.Core.List.{List, []}
use lib.ListN.{length, get_or, take}
use lib.Dec.{T, eqb, eqb→eq}
use Rattle.laws.specs.First.{first_not}
use Rattle.laws.specs.Sum.{sum}
use Rattle.laws.proofs.Tables.{at_entry}
use Rattle.patterns.specs.Patterns.{same, value_in}
use Rattle.patterns.proofs.PatternLaws.{distinct, one_value}
use Rattle.patterns.proofs.CharacterLaws.{sized, length_at}
use Rattle.patterns.proofs.DrawnSums.{sum_at}
use Rattle.code128.specs.Characters.{patterns, stop, bars}

pub patterns_are : length patterns ≡ 106
unfolding patterns
patterns_are = refl

pub patterns_sized : T (sized 6 patterns)
unfolding patterns
patterns_sized = tt

pub distinct_test : T (distinct patterns)
unfolding patterns value_in same first_not
distinct_test = tt

-- no two patterns are equal
pub patterns_distinct : (u v : ℕ) → u < 106 → v < 106 → get_or patterns u [] ≡ get_or patterns v [] → u ≡ v
patterns_distinct u v hu hv same = one_value patterns distinct_test u v (rw patterns_are hu) (rw patterns_are hv) same

pub pattern_length : (v : ℕ) → v < 106 → length (get_or patterns v []) ≡ 6
pattern_length v h = length_at patterns 6 patterns_sized v (rw patterns_are h)

-- "Each of 0 to 105 sums to 11 with an even bar sum"
pub pattern_sum : (v : ℕ) → v < 106 → sum (get_or patterns v []) ≡ 11
unfolding patterns sum
pattern_sum v h = sum_at patterns 11 tt v h

pub pattern_bars : (v : ℕ) → v < 106 → sum (bars (get_or patterns v [])) % 2 ≡ 0
unfolding patterns sum
pattern_bars v h = eqb→eq _ 0 (at_entry (λ (k : ℕ) (pattern : List ℕ). eqb (sum (bars pattern) % 2) 0) [] patterns tt v h)

pub stop_is_no_pattern : value_in patterns (take 6 stop) ≡ 106
unfolding patterns value_in same first_not
stop_is_no_pattern = refl
