-- What an answer says of the rule behind it, and how a refusal passes on: the answer tells a rule's two cases apart.
use Rattle.std.specs.Prelude.{Result, Ok, Err}
use Prim.Native.Nat.{ℕ, ◌≤◌, ◌<◌}
use mathlib.Core.Path.{◌≡◌, refl, sym, ap, ◌∙◌, subst}
use mathlib.Core.List.{List}
use native.Mathlib.Omega.{arith}
use lib.ListN.{length, drop, length-append, length-drop}
use lib.Dec.{leb}
use borrow.Author.Tests.{le-leb, lt-leb, leb-true}
use Rattle.refusal.specs.declared.Refusal.{Refusal}
use Rattle.refusal.specs.declared.Refusal.TheVariants.{Room}
use Rattle.refusal.specs.Outcome.{Outcome, made, refused}
use Rattle.refusal.specs.Fills.{answered, answer_of, Fills, laying}
use Rattle.refusal.proofs.OutcomeLaws.{must_made, made_same}

-- an answer that is a value
pub refused_of_answered : {A : Type 0} (o : Outcome A) (f : Refusal) → Err f ≡ answered o → o ≡ refused f
refused_of_answered (made n) f e = absurd (let z : ◌≡◌ {A = ℕ} 0 1 = cc in omega arith)
refused_of_answered (refused g) f e = cc

pub made_of_answered : {A : Type 0} (o : Outcome A) (n : A) → Ok n ≡ answered o → o ≡ made n
made_of_answered (made m) n e = cc
made_of_answered (refused g) n e = absurd (let z : ◌≡◌ {A = ℕ} 0 1 = cc in omega arith)

-- and one that is the count of a list
module _ {A : Type 0} where
  pub refused_of_answer : (o : Outcome (List A)) (f : Refusal) → Err f ≡ answer_of o → o ≡ refused f
  refused_of_answer (made xs) f e = absurd (let z : ◌≡◌ {A = ℕ} 0 1 = cc in omega arith)
  refused_of_answer (refused g) f e = cc

  pub made_of_answer : (o : Outcome (List A)) (n : ℕ) → Ok n ≡ answer_of o → (xs : List A) × (o ≡ made xs) × (length xs ≡ n)
  made_of_answer (made xs) n e = (xs, refl, cc)
  made_of_answer (refused g) n e = absurd (let z : ◌≡◌ {A = ℕ} 0 1 = cc in omega arith)

  pub fills_refused : (o : Outcome (List A)) (f : Refusal) (before : List A) → o ≡ refused f → Fills o before (Err f) before
  fills_refused o f before e = rw e (record { answer = refl; lent = refl })

  -- a refusal that is passed on unchanged
  pub fills_passed : (o : Outcome (List A)) (f : Refusal) (before : List A) (r : Result ℕ Refusal) → r ≡ Err f → o ≡ refused f → Fills o before r before
  fills_passed o f before r is e = subst (λ (a : Result ℕ Refusal). Fills o before a before) (sym is) (fills_refused o f before e)

  -- a call that ends in one whose rule comes to the same
  pub fills_same : (o p : Outcome (List A)) (before : List A) (r : Result ℕ Refusal) (after : List A) → o ≡ p → Fills p before r after → Fills o before r after
  fills_same o p before r after e h = rw e h

  pub laying_made : (xs : List A) (room : ℕ) → length xs ≤ room → laying xs room ≡ made xs
  laying_made xs room h = simp (le-leb (length xs) room h)

  pub laying_refused : (xs : List A) (room : ℕ) → room < length xs → laying xs room ≡ refused Room
  laying_refused xs room h = simp (lt-leb (length xs) room h)

  pub made_of_laying : (xs ys : List A) (room : ℕ) → laying xs room ≡ made ys → (length xs ≤ room) × (xs ≡ ys)
  made_of_laying xs ys room e =
      let m = must_made (leb (length xs) room) Room (made xs) ys e in
      (leb-true (length xs) room m.0, made_same xs ys m.1)

  -- what is counted as written fits in what was lent
  pub fills_within : (o : Outcome (List A)) (before : List A) (r : Result ℕ Refusal) (after : List A) → Fills o before r after → length after ≡ length before → (n : ℕ) → r ≡ Ok n → n ≤ length before
  fills_within (made xs) before r after h kept n is =
      let counted : n ≡ length xs = cc (h.answer, is) in
      let whole = ap length h.lent ∙ length-append xs (drop (length xs) before) in
      omega (arith, length-drop (length xs) before)
  fills_within (refused f) before r after h kept n is = absurd (let z : ◌≡◌ {A = ℕ} 0 1 = cc (h.answer, is) in omega arith)
