-- Bytes cut at a byte, met by a loop that goes from end to end: where no end is left they are one part, and else the bytes before the
-- first end are the first part, and what follows it makes the others.
use Prim.Native.Nat.{ℕ, zero, suc, ◌<◌}
use mathlib.Core.Path.{◌≡◌, refl}
use mathlib.Core.Bool.{Bool, true, false, not, cond}
use mathlib.Core.List.{List, [], ◌∷◌}
use native.Mathlib.Nat.{le_of_suc-le-suc, not-suc-le-zero, suc_inj}
use native.Mathlib.Omega.{arith}
use lib.ListN.{length, take, drop}
use lib.Dec.{eqb}
use Rattle.laws.specs.First.{first_not}
use Rattle.lines.specs.Cut.{other_than, longer, cut_at}

module _ (end : ℕ) where
  -- the place of the first end
  abbrev place : List ℕ → ℕ
  place bytes = first_not (other_than end) bytes

  pub cut_last : (bytes : List ℕ) → place bytes ≡ length bytes → cut_at end bytes ≡ bytes ∷ []
  unfolding cut_at first_not
  cut_last [] e = refl
  cut_last (byte ∷ bytes) e = go (eqb byte end) e (cut_last bytes)
    where
      go : (b : Bool) → cond (not b) (suc (place bytes)) zero ≡ suc (length bytes) → (place bytes ≡ length bytes → cut_at end bytes ≡ bytes ∷ []) → cond b ([] ∷ cut_at end bytes) (longer byte (cut_at end bytes)) ≡ (byte ∷ bytes) ∷ []
      go true e rest = absurd (omega arith)
      go false e rest = rw (rest (suc_inj e))

  pub cut_first : (bytes : List ℕ) → place bytes < length bytes → cut_at end bytes ≡ take (place bytes) bytes ∷ cut_at end (drop (suc (place bytes)) bytes)
  unfolding cut_at first_not
  cut_first [] h = absurd (not-suc-le-zero h)
  cut_first (byte ∷ bytes) h = go (eqb byte end) h (cut_first bytes)
    where
      go : (b : Bool) → cond (not b) (suc (place bytes)) zero < suc (length bytes) → (place bytes < length bytes → cut_at end bytes ≡ take (place bytes) bytes ∷ cut_at end (drop (suc (place bytes)) bytes)) → cond b ([] ∷ cut_at end bytes) (longer byte (cut_at end bytes)) ≡ take (cond (not b) (suc (place bytes)) zero) (byte ∷ bytes) ∷ cut_at end (drop (cond (not b) (suc (place bytes)) zero) bytes)
      go true h rest = refl
      go false h rest = rw (rest (le_of_suc-le-suc h))
