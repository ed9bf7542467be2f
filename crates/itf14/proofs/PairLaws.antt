-- The table of pairs, by computed tests: each two digits' elements stand interleaved at ten times the first and the second, no two pairs are
-- equal, and the two digits that widths weigh are the only ones that they can draw.
use Prim.Native.Nat.{ℕ, ◌+◌, ◌*◌, ◌/◌, ◌%◌, ◌<◌}
use mathlib.Core.Path.{◌≡◌, refl}
use mathlib.Core.Bool.{Bool, true, false}
use mathlib.Core.List.{List, []}
use native.Mathlib.Omega.{arith}
use lib.Dec.{T, eqb, eqb→eq}
use lib.ListN.{length, get_or}
use Rattle.laws.specs.First.{first_not}
use Rattle.laws.proofs.Tables.{every, at_entry}
use Rattle.patterns.specs.Patterns.{same, value_in}
use Rattle.patterns.specs.Matching.{Candidate}
use Rattle.patterns.proofs.PatternLaws.{same_true, distinct}
use Rattle.patterns.proofs.CharacterLaws.{sized}
use Rattle.patterns.proofs.MatchLaws.{finds, one_candidate}
use Rattle.itf14.specs.Tables.{digit_rows, interleaved, pairs}
use Rattle.itf14.specs.Candidates.{wide_of, candidate_at}

T_true : (b : Bool) → T b → b ≡ true
T_true true t = refl
T_true false t = absurd t

pub row_length : (digit : ℕ) → digit < 10 → length (get_or digit_rows digit []) ≡ 5
row_length digit h = eqb→eq _ 5 (at_entry (λ (k : ℕ) (row : List ℕ). eqb (length row) 5) [] digit_rows tt digit h)

abbrev draws_two : ℕ → List ℕ → Bool
draws_two value pattern = same pattern (interleaved (get_or digit_rows (value / 10) []) (get_or digit_rows (value % 10) []))

drawn_two : T (every draws_two pairs)
unfolding pairs same
drawn_two = tt

pub sized_pairs : T (sized 10 pairs)
unfolding pairs
sized_pairs = tt

pub length_pairs : length pairs ≡ 100
unfolding pairs
length_pairs = refl

pub pair_at : (a b : ℕ) → a < 10 → b < 10 → get_or pairs (10 * a + b) [] ≡ interleaved (get_or digit_rows a []) (get_or digit_rows b [])
pair_at a b ha hb =
    let first : (10 * a + b) / 10 ≡ a = omega arith in
    let second : (10 * a + b) % 10 ≡ b = omega arith in
    let t = at_entry draws_two [] pairs drawn_two (10 * a + b) (rw length_pairs (omega arith)) in
    rw (first, second) at (same_true _ _ (T_true _ t))

pub distinct_pairs : T (distinct pairs)
unfolding pairs value_in first_not same
distinct_pairs = tt

-- the pair of the digits that some widths weigh
abbrev pair_of : List ℕ → ℕ
pair_of widths = 10 * candidate_at 0 widths + candidate_at 1 widths

found_pairs : T (every (finds pair_of) pairs)
unfolding pairs candidate_at wide_of
found_pairs = tt

pub one_pair : (widths : List ℕ) → Candidate pairs widths (10 * candidate_at 0 widths + candidate_at 1 widths)
one_pair widths = one_candidate pair_of pairs found_pairs widths
