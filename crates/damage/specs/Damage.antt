-- Demand 3: "Of a right GS1-128 symbol: one character replaced, two unequal neighbours exchanged, one inner edge moved by whole modules, or
-- one width changed: the reader refuses it." The first two are damage to the list of the symbol's characters, which is then drawn; the
-- other two are damage to its list of widths.
use Rattle.std.specs.Prelude.{ℕ, suc, ◌+◌, ◌≤◌, ◌<◌, ◌≡◌, ◌≢◌, List, [], ◌∷◌, ◌++◌, length, get_or, set}
use Rattle.laws.specs.Exchanged.{exchanged}
use Rattle.patterns.specs.Patterns.{drawn}
use Rattle.code128.specs.Characters.{patterns, stop}
use Rattle.code128.specs.Check.{check_of}
use Rattle.gs1_128.specs.Right.{IsSymbol}

-- the 107 characters of Code 128: six widths for each of 0 to 105, seven for the stop, 106
abbrev pub all_patterns : List (List ℕ)
all_patterns = patterns ++ (stop ∷ [])

-- a symbol's characters, start to stop
abbrev pub characters_of : {widths message : List ℕ} → IsSymbol widths message → List ℕ
characters_of s = (s.start ∷ 102 ∷ s.values) ++ (check_of s.start (102 ∷ s.values) ∷ []) ++ (106 ∷ [])

-- the list with x at i and y right after it
abbrev pub set_both : List ℕ → ℕ → ℕ → ℕ → List ℕ
set_both xs i x y = set (set xs i x) (suc i) y

pub data Damaged {widths message : List ℕ} (s : IsSymbol widths message) : List ℕ → Type 0 where
  -- the character at k, the start and the stop included, is another of the 107
  character_replaced : (k c : ℕ) → k < length (characters_of s) → c < 107 → c ≢ get_or (characters_of s) k 0
      → Damaged s (drawn all_patterns (set (characters_of s) k c))
  -- the characters at k and k + 1, after the start and before the stop, change places; the check character may be one of them
  neighbours_exchanged : (k : ℕ) → 1 ≤ k → k + 2 < length (characters_of s) → get_or (characters_of s) k 0 ≢ get_or (characters_of s) (suc k) 0
      → Damaged s (drawn all_patterns (exchanged k (characters_of s)))
  -- the edge between the widths at i and i + 1: together they are as wide as before, and the first isn't
  edge_moved : (i x y : ℕ) → suc i < length widths → x + y ≡ get_or widths i 0 + get_or widths (suc i) 0 → x ≢ get_or widths i 0
      → Damaged s (set_both widths i x y)
  -- the width at i is another number
  width_changed : (i x : ℕ) → i < length widths → x ≢ get_or widths i 0
      → Damaged s (set widths i x)
