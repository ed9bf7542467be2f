-- A weighed sum, changed: a store changes one term, an exchange of neighbours two, and an element that comes last moves every other one
-- place on.
use Prim.Native.Nat.{ℕ, zero, suc, ◌+◌, ◌-◌, ◌*◌, ◌<◌}
use mathlib.Core.Path.{◌≡◌, refl, ◌∙◌}
use mathlib.Core.List.{List, [], ◌∷◌, ◌++◌}
use native.Mathlib.Nat.{le_of_suc-le-suc, not-suc-le-zero, suc-sub-suc, sub-zero}
use native.Mathlib.Numerals.{add-one}
use native.Mathlib.Omega.{arith}
use lib.ListN.{length, get_or, set, length-append, length-set}
use lib.Seq.{get_or-set_other}
use Rattle.laws.specs.Weighed.{weighed}
use Rattle.laws.specs.Exchanged.{exchanged}
use Rattle.laws.proofs.ExchangedLaws.{exchanged_sets}

module _ (weight : ℕ → ℕ) where
  pub weighed_of_nil : weighed weight [] ≡ 0
  unfolding weighed
  weighed_of_nil = refl

  pub weighed_last : (xs : List ℕ) (x : ℕ) → weighed weight (xs ++ (x ∷ [])) ≡ weighed (λ k. weight (suc k)) xs + weight 0 * x
  unfolding weighed
  weighed_last [] x = omega arith
  weighed_last (y ∷ ys) x =
      let longer : length (ys ++ (x ∷ [])) ≡ suc (length ys) = length-append ys (x ∷ []) ∙ add-one (length ys) in
      rw longer (omega (arith, weighed_last ys x))

  pub weighed_set : (xs : List ℕ) (i x d : ℕ) → i < length xs → weighed weight (set xs i x) + weight (length xs - suc i) * get_or xs i d ≡ weighed weight xs + weight (length xs - suc i) * x
  unfolding weighed
  weighed_set [] i x d h = absurd (not-suc-le-zero h)
  weighed_set (y ∷ ys) zero x d h = rw (suc-sub-suc, sub-zero) (omega arith)
  weighed_set (y ∷ ys) (suc i) x d h = rw (suc-sub-suc, length-set ys i x) (omega (arith, weighed_set ys i x d (le_of_suc-le-suc h)))

  pub weighed_exchanged : (xs : List ℕ) (i d : ℕ) → suc i < length xs
      → weighed weight (exchanged i xs) + (weight (length xs - suc i) * get_or xs i d + weight (length xs - suc (suc i)) * get_or xs (suc i) d)
      ≡ weighed weight xs + (weight (length xs - suc i) * get_or xs (suc i) d + weight (length xs - suc (suc i)) * get_or xs i d)
  weighed_exchanged xs i d h =
      let a = get_or xs i d in
      let b = get_or xs (suc i) d in
      let once = set xs i b in
      let there : get_or once (suc i) d ≡ b = get_or-set_other xs i (suc i) b d (omega arith) in
      let within : suc i < length once = rw length-set h in
      let second = rw (length-set, there) at (weighed_set once (suc i) a d within) in
      rw (exchanged_sets i xs d h) (omega (arith, weighed_set xs i b d (omega arith), second))
