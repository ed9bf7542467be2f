-- The scan and the drawing of a symbol undo one another: the start is one of three patterns at the front, the stop is the last seven
-- widths, and the characters between them are a table's, the check character last.
use Prim.Native.Nat.{ℕ, ◌+◌, ◌-◌, ◌*◌, ◌≤◌, ◌<◌}
use mathlib.Core.Path.{◌≡◌, refl, sym, ap, ap₂, ◌∙◌}
use mathlib.Core.List.{List, [], ◌∷◌, ◌++◌, append_assoc}
use native.Mathlib.Omega.{arith}
use lib.ListN.{length, get_or, take, drop, length-append}
use lib.Seq.{take_at, drop_at, drop-drop, get_or-take, get_or-drop}
use lib.Dec.{T}
use borrow.Author.Tests.{lt-ltb}
use Rattle.laws.specs.Below.{Below}
use Rattle.laws.specs.First.{first_not}
use Rattle.laws.proofs.BelowLaws.{below_first, below_rest, below_last}
use Rattle.refusal.specs.Outcome.{made}
use Rattle.patterns.specs.Patterns.{same, value_in, drawn, characters}
use Rattle.patterns.proofs.PatternLaws.{same_refl, distinct, value_of}
use Rattle.patterns.proofs.CharacterLaws.{sized, length_of_drawn, characters_of_drawn}
use Rattle.code128.specs.Characters.{patterns, stop}
use Rattle.code128.specs.Check.{check_of}
use Rattle.code128.proofs.PatternLaws.{pattern_length}
use Rattle.code128.proofs.CheckLaws.{check_below}
use Rattle.gs1_128.specs.Symbol.{with_check, symbol_of, count_of, starts, allowed}
use Rattle.gs1_128.specs.Scanning.{start_of, guarded, start_in, values_in}
use Rattle.gs1_128.proofs.TableLaws.{allowed_are, starts_are}

-- The two parts of the table: 0 to 102, and the three starts.
allowed_sized : T (sized 6 allowed)
unfolding patterns
allowed_sized = tt

allowed_distinct : T (distinct allowed)
unfolding patterns value_in same first_not
allowed_distinct = tt

starts_distinct : T (distinct starts)
unfolding patterns value_in same first_not
starts_distinct = tt

-- values that are allowed after the start are drawn alike from their part of the table and from the whole
drawn_allowed : (values : List ℕ) → Below 103 values → drawn patterns values ≡ drawn allowed values
unfolding drawn
drawn_allowed [] within = refl
drawn_allowed (v ∷ values) within =
    ap₂ (λ (row rest : List ℕ). row ++ rest) (sym (get_or-take 103 patterns v [] (below_first 103 v values within))) (drawn_allowed values (below_rest 103 v values within))

-- of a start and the values after it
module _ (start : ℕ) (values : List ℕ) (least : 103 ≤ start) (most : start ≤ 105) (within : Below 103 values) where
  -- the characters between the start and the stop
  abbrev after : List ℕ
  after = with_check start values

  after_below : Below 103 after
  after_below = below_last 103 values (check_of start values) within (check_below start values)

  length_after : length after ≡ length values + 1
  length_after = length-append values (check_of start values ∷ [])

  first_six : length (get_or patterns start []) ≡ 6
  first_six = pattern_length start (omega arith)

  sixes : length (drawn allowed after) ≡ 6 * (length values + 1)
  sixes = length_of_drawn allowed 6 allowed_sized after (rw allowed_are after_below) ∙ ap (λ (n : ℕ). 6 * n) length_after

  -- the start, the characters and the stop
  pub symbol_parts : symbol_of (start ∷ values) ≡ get_or patterns start [] ++ (drawn allowed after ++ stop)
  unfolding symbol_of drawn
  symbol_parts =
      append_assoc (get_or patterns start []) (drawn patterns after) stop
      ∙ ap (λ (between : List ℕ). get_or patterns start [] ++ (between ++ stop)) (drawn_allowed after after_below)

  pub length_of_symbol : length (symbol_of (start ∷ values)) ≡ 6 * length values + 19
  length_of_symbol =
      ap length symbol_parts
      ∙ length-append (get_or patterns start []) (drawn allowed after ++ stop)
      ∙ omega (arith, first_six, length-append (drawn allowed after) stop, sixes)

  first_of_symbol : take 6 (symbol_of (start ∷ values)) ≡ get_or patterns start []
  first_of_symbol = ap (take 6) symbol_parts ∙ take_at (get_or patterns start []) (drawn allowed after ++ stop) 6 first_six

  rest_of_symbol : drop 6 (symbol_of (start ∷ values)) ≡ drawn allowed after ++ stop
  rest_of_symbol = ap (drop 6) symbol_parts ∙ drop_at (get_or patterns start []) (drawn allowed after ++ stop) 6 first_six

  count_of_symbol : count_of (symbol_of (start ∷ values)) ≡ length values
  count_of_symbol = omega (arith, length_of_symbol)

  start_of_symbol : start_of (symbol_of (start ∷ values)) ≡ start
  start_of_symbol =
      let there : get_or starts (start - 103) [] ≡ take 6 (symbol_of (start ∷ values)) = get_or-drop 103 patterns (start - 103) [] ∙ ap (λ (v : ℕ). get_or patterns v []) (omega arith) ∙ sym first_of_symbol in
      ap (λ (v : ℕ). 103 + v) (value_of starts starts_distinct (start - 103) (take 6 (symbol_of (start ∷ values))) (rw starts_are (omega arith)) there) ∙ omega arith

  stop_of_symbol : drop (length (symbol_of (start ∷ values)) - 7) (symbol_of (start ∷ values)) ≡ stop
  stop_of_symbol =
      let at : length (symbol_of (start ∷ values)) - 7 ≡ 6 + 6 * (length values + 1) = omega (arith, length_of_symbol) in
      ap (λ (n : ℕ). drop n (symbol_of (start ∷ values))) at
      ∙ sym (drop-drop (6 * (length values + 1)) 6 (symbol_of (start ∷ values)))
      ∙ ap (drop (6 * (length values + 1))) rest_of_symbol
      ∙ drop_at (drawn allowed after) stop (6 * (length values + 1)) sixes

  pub start_in_symbol : start_in (symbol_of (start ∷ values)) ≡ made start
  unfolding start_in guarded
  start_in_symbol =
      let low : value_in starts (take 6 (symbol_of (start ∷ values))) < 3 = omega (arith, start_of_symbol) in
      rw (lt-ltb _ 3 low, stop_of_symbol, same_refl stop) (ap made start_of_symbol)

  pub values_of_symbol : values_in (symbol_of (start ∷ values)) ≡ made after
  values_of_symbol =
      ap₂ (λ (n : ℕ) (rest : List ℕ). characters allowed 6 n 1 rest) (ap (λ (n : ℕ). n + 1) count_of_symbol ∙ sym length_after) rest_of_symbol
      ∙ characters_of_drawn allowed 6 allowed_sized allowed_distinct after (rw allowed_are after_below) 1 stop
