-- A rule read backwards: where it made something, every line of it passed; and where it makes nothing, some line refuses.
use Prim.Native.Nat.{ℕ}
use mathlib.Core.Path.{◌≡◌, refl}
use mathlib.Core.Bool.{Bool, true, false}
use native.Mathlib.Omega.{arith}
use Rattle.refusal.specs.declared.Refusal.{Refusal}
use Rattle.refusal.specs.Outcome.{Outcome, made, refused, ◌>>=◌, ◌>>◌, must}

module _ {A : Type 0} where
  pub made_not_refused : (x : A) (f : Refusal) → made x ≡ refused f → ⊥
  made_not_refused x f e = let z : ◌≡◌ {A = ℕ} 0 1 = cc in omega arith

  pub made_same : (x y : A) → made x ≡ made y → x ≡ y
  made_same x y e = cc

  -- a rule that makes nothing refuses
  pub refused_unless_made : (o : Outcome A) → ((x : A) → o ≡ made x → ⊥) → (f : Refusal) × (o ≡ refused f)
  refused_unless_made (made x) never = absurd (never x refl)
  refused_unless_made (refused f) never = (f, refl)

  pub must_made : (test : Bool) (f : Refusal) (rest : Outcome A) (x : A) → (must test f >> rest) ≡ made x → (test ≡ true) × (rest ≡ made x)
  must_made true f rest x e = (refl, e)
  must_made false f rest x e = absurd (let z : ◌≡◌ {A = ℕ} 0 1 = cc in omega arith)

pub bind_made : {A B : Type 0} (o : Outcome A) (rest : A → Outcome B) (y : B) → (o >>= rest) ≡ made y → (x : A) × (o ≡ made x) × (rest x ≡ made y)
bind_made (made x) rest y e = (x, refl, e)
bind_made (refused f) rest y e = absurd (let z : ◌≡◌ {A = ℕ} 0 1 = cc in omega arith)

-- a test and what it lets through, taken together or one after the other
pub must_then : {A B : Type 0} (test : Bool) (f : Refusal) (x : A) (rest : A → Outcome B) → (must test f >> rest x) ≡ ((must test f >> made x) >>= rest)
must_then true f x rest = refl
must_then false f x rest = refl
