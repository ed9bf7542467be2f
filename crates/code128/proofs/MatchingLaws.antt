-- The matcher finds exactly the pattern's value: among the patterns a value's key is its own, and six widths that are packed into a pattern's
-- number are the pattern.
use Prim.Native.Nat.{ℕ, ◌/◌, ◌%◌, ◌<◌}
use mathlib.Core.Path.{◌≡◌, refl, sym, ◌∙◌}
use mathlib.Core.Bool.{Bool, true, false}
use mathlib.Core.List.{List, [], ◌∷◌}
use native.Mathlib.Omega.{arith}
use lib.ListN.{length, get_or}
use lib.Dec.{T, eqb, ltb, eqb→eq, ltb→lt}
use Rattle.laws.specs.Packed.{packed}
use Rattle.laws.proofs.Packed.{Bytes, packed_same}
use Rattle.laws.proofs.Tables.{every, at_entry}
use Rattle.laws.specs.Run.{run}
use Rattle.patterns.specs.Patterns.{same}
use Rattle.patterns.specs.Matching.{Candidate}
use Rattle.patterns.proofs.PatternLaws.{same_true}
use Rattle.patterns.proofs.MatchLaws.{one_candidate}
use Rattle.code128.specs.Characters.{patterns}
use Rattle.code128.specs.Matching.{six_packed, key_of, candidate_of, packed_patterns}
use Rattle.code128.proofs.PatternLaws.{pattern_length}

-- six widths as the code packs them
pub packed_six : (xs : List ℕ) → length xs ≡ 6 → six_packed xs ≡ packed xs
unfolding packed
packed_six [] h = absurd (omega arith)
packed_six (a ∷ []) h = absurd (omega arith)
packed_six (a ∷ b ∷ []) h = absurd (omega arith)
packed_six (a ∷ b ∷ c ∷ []) h = absurd (omega arith)
packed_six (a ∷ b ∷ c ∷ d ∷ []) h = absurd (omega arith)
packed_six (a ∷ b ∷ c ∷ d ∷ e ∷ []) h = absurd (omega arith)
packed_six (a ∷ b ∷ c ∷ d ∷ e ∷ f ∷ []) h = omega arith
packed_six (a ∷ b ∷ c ∷ d ∷ e ∷ f ∷ g ∷ rest) h = absurd (omega arith)

-- a pattern's widths are bytes
pub pattern_bytes : (v : ℕ) → v < 106 → Bytes (get_or patterns v [])
unfolding patterns
pattern_bytes v h i within =
    ltb→lt _ 256
    (at_entry (λ (k width : ℕ). ltb width 256) 0 (get_or patterns v [])
    (at_entry (λ (k : ℕ) (pattern : List ℕ). every (λ (k width : ℕ). ltb width 256) pattern) [] patterns tt v h)
    i within)

-- the tables: each candidate is a value, and each value's number is its pattern's
pub candidate_below : (key : ℕ) → key < 256 → candidate_of key < 106
candidate_below key h = ltb→lt _ 106 (at_entry (λ (k x : ℕ). ltb (candidate_of k) 106) 0 (run 0 256) tt key h)

pub packed_at : (v : ℕ) → v < 106 → get_or packed_patterns v 0 ≡ packed (get_or patterns v [])
unfolding patterns packed
packed_at v h = eqb→eq _ _ (at_entry (λ (k : ℕ) (pattern : List ℕ). eqb (get_or packed_patterns k 0) (packed pattern)) [] patterns tt v h)

module _ (widths : List ℕ) where
  abbrev pub candidate : ℕ
  candidate = candidate_of (key_of (packed widths))

  -- the one value that widths can have is the candidate of their key
  pub one_value_of : Candidate patterns widths candidate
  unfolding patterns packed
  one_value_of = one_candidate (λ (pattern : List ℕ). candidate_of (key_of (packed pattern))) patterns tt widths

  -- and they have it where they are packed into the same number as its pattern
  pub candidate_same : length widths ≡ 6 → Bytes widths → packed widths ≡ packed (get_or patterns candidate []) → get_or patterns candidate [] ≡ widths
  candidate_same six bytes e =
      let below = candidate_below (key_of (packed widths)) (omega arith) in
      packed_same (get_or patterns candidate []) widths (pattern_length candidate below ∙ sym six) (pattern_bytes candidate below) bytes (sym e)

-- the six bytes of a number
abbrev unpacked : ℕ → List ℕ
unpacked p =
    (p % 256)
    ∷ (p / 0x100 % 256)
    ∷ (p / 0x1_0000 % 256)
    ∷ (p / 0x100_0000 % 256)
    ∷ (p / 0x1_0000_0000 % 256)
    ∷ (p / 0x100_0000_0000 % 256)
    ∷ []

holds : (b : Bool) → T b → b ≡ true
holds true t = refl
holds false t = absurd t

pub pattern_unpacked : (v : ℕ) → v < 106 → unpacked (packed (get_or patterns v [])) ≡ get_or patterns v []
unfolding patterns packed same
pattern_unpacked v h =
    same_true _ (get_or patterns v [])
    (holds _ (at_entry (λ (k : ℕ) (pattern : List ℕ). same (unpacked (packed pattern)) pattern) [] patterns tt v h))
