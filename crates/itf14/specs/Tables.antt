-- Document 01, "Numbers and check digit": ITF-14's elements, narrow 2 and wide 5 half modules, "first digit in the bars, second in the
-- spaces, interleaved".
use Rattle.std.specs.Prelude.{ℕ, List, [], ◌∷◌, ◌++◌, map}

abbrev pub N : ℕ
N = 2

abbrev pub W : ℕ
W = 5

-- "Digits 0 to 9"
abbrev pub digit_rows : List (List ℕ)
digit_rows =
    (N ∷ N ∷ W ∷ W ∷ N ∷ [])
    ∷ (W ∷ N ∷ N ∷ N ∷ W ∷ [])
    ∷ (N ∷ W ∷ N ∷ N ∷ W ∷ [])
    ∷ (W ∷ W ∷ N ∷ N ∷ N ∷ [])
    ∷ (N ∷ N ∷ W ∷ N ∷ W ∷ [])
    ∷ (W ∷ N ∷ W ∷ N ∷ N ∷ [])
    ∷ (N ∷ W ∷ W ∷ N ∷ N ∷ [])
    ∷ (N ∷ N ∷ N ∷ W ∷ W ∷ [])
    ∷ (W ∷ N ∷ N ∷ W ∷ N ∷ [])
    ∷ (N ∷ W ∷ N ∷ W ∷ N ∷ [])
    ∷ []

abbrev pub interleaved : List ℕ → List ℕ → List ℕ
interleaved [] spaces = []
interleaved (bar ∷ bars) [] = []
interleaved (bar ∷ bars) (space ∷ spaces) = bar ∷ space ∷ interleaved bars spaces

pairs_of : List (List ℕ) → List (List ℕ)
pairs_of [] = []
pairs_of (bars ∷ more) = map (interleaved bars) digit_rows ++ pairs_of more

-- the pair of digits a and b is pattern 10 a + b
unfoldable pub pairs : List (List ℕ)
unfolding pairs_of
pairs = pairs_of digit_rows

abbrev pub start : List ℕ
start = N ∷ N ∷ N ∷ N ∷ []

abbrev pub stop : List ℕ
stop = W ∷ N ∷ N ∷ []
