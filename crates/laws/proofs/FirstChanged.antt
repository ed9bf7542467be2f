-- A list whose every element passes a test, changed: it still does where each new element passes.
use Prim.Native.Nat.{ℕ, zero, suc, ◌<◌}
use mathlib.Core.Path.{◌≡◌, refl, ap}
use mathlib.Core.Bool.{Bool, true, false, cond}
use mathlib.Core.List.{List, [], ◌∷◌, ◌++◌}
use native.Mathlib.Nat.{suc_inj}
use native.Mathlib.Omega.{arith}
use lib.ListN.{length, get_or, set}
use Rattle.laws.specs.First.{first_not}
use Rattle.laws.proofs.FirstLaws.{first_of_nil, all_pass, pass_append}
use Rattle.laws.specs.Exchanged.{exchanged}
use Rattle.laws.proofs.ExchangedLaws.{exchanged_sets}

module _ {A : Type 0} (passes : A → Bool) where
  -- all of a list passes: its first element does, and the rest
  apart : (x : A) (xs : List A) → first_not passes (x ∷ xs) ≡ suc (length xs) → (passes x ≡ true) × (first_not passes xs ≡ length xs)
  unfolding first_not
  apart x xs e = go (passes x) refl e
    where
      go : (b : Bool) → passes x ≡ b → cond b (suc (first_not passes xs)) zero ≡ suc (length xs) → (passes x ≡ true) × (first_not passes xs ≡ length xs)
      go true p e = (p, suc_inj e)
      go false p e = absurd (omega arith)

  together : (x : A) (xs : List A) → passes x ≡ true → first_not passes xs ≡ length xs → first_not passes (x ∷ xs) ≡ suc (length xs)
  unfolding first_not
  together x xs p e = rw p (ap suc e)

  pub pass_last : (xs : List A) (x : A) → first_not passes xs ≡ length xs → passes x ≡ true → first_not passes (xs ++ (x ∷ [])) ≡ length (xs ++ (x ∷ []))
  pass_last xs x e p = pass_append passes xs (x ∷ []) e (together x [] p (first_of_nil passes))

  pub pass_set : (xs : List A) (i : ℕ) (x : A) → first_not passes xs ≡ length xs → passes x ≡ true → first_not passes (set xs i x) ≡ length (set xs i x)
  pass_set [] i x e p = e
  pass_set (y ∷ ys) zero x e p = together x ys p (apart y ys e).1
  pass_set (y ∷ ys) (suc i) x e p =
      let parts = apart y ys e in
      together y (set ys i x) parts.0 (pass_set ys i x parts.1 p)

  pub pass_exchanged : (i : ℕ) (xs : List A) (d : A) → suc i < length xs → first_not passes xs ≡ length xs → first_not passes (exchanged i xs) ≡ length (exchanged i xs)
  pass_exchanged i xs d h e =
      rw (exchanged_sets i xs d h)
      (pass_set (set xs i (get_or xs (suc i) d)) (suc i) (get_or xs i d)
      (pass_set xs i (get_or xs (suc i) d) e (all_pass passes xs e (suc i) d h))
      (all_pass passes xs e i d (omega arith)))
