-- What a promise about a working list says: the answer tells whether the rule refused, and where it did not, what was made stands at the
-- front of the list.
use Rattle.std.specs.Prelude.{Result, Ok, Err}
use Prim.Native.Nat.{ℕ, ◌≤◌}
use mathlib.Core.Path.{◌≡◌, refl, sym, ap, subst, ◌∙◌}
use mathlib.Core.List.{List, [], ◌++◌, append-nil}
use native.Mathlib.Omega.{arith}
use lib.ListN.{length, take, drop, drop_of_length-le, length-append}
use lib.Seq.{take_at}
use Rattle.refusal.specs.declared.Refusal.{Refusal}
use Rattle.refusal.specs.Outcome.{Outcome, made, refused}
use Rattle.refusal.specs.Fills.{laid, Fills, FillsOwn}
use Rattle.refusal.proofs.OutcomeLaws.{made_same, made_not_refused}
use Rattle.refusal.proofs.FillsLaws.{made_of_answer}

module _ {A : Type 0} where
  -- a working list is filled whole, or the rule has refused
  pub own_filled : (o : Outcome (List A)) (before after : List A) (n : ℕ) → o ≡ made after → length after ≡ n → length before ≡ n → FillsOwn o before (Ok n) after
  own_filled o before after n e la lb =
      rw e
      (record {
        answer = ap Ok (sym la);
        lent = λ xs p.
            let same : after ≡ xs = made_same after xs p in
            let over : drop (length xs) before ≡ [] = drop_of_length-le before {i = length xs} (omega (arith, ap length same)) in
            rw over (same ∙ sym (append-nil xs));
      })

  pub own_refused : (o : Outcome (List A)) (before after : List A) (f : Refusal) → o ≡ refused f → FillsOwn o before (Err f) after
  own_refused o before after f e = rw e (record { answer = refl; lent = λ xs p. absurd (made_not_refused xs f (sym p)) })

  -- a refusal that is passed on unchanged
  pub own_passed : (o : Outcome (List A)) (before after : List A) (f : Refusal) (r : Result ℕ Refusal) → r ≡ Err f → o ≡ refused f → FillsOwn o before r after
  own_passed o before after f r is e = subst (λ (a : Result ℕ Refusal). FillsOwn o before a after) (sym is) (own_refused o before after f e)

  -- a call that ends in one whose rule comes to the same
  pub own_same : (o p : Outcome (List A)) (before after : List A) (r : Result ℕ Refusal) → o ≡ p → FillsOwn p before r after → FillsOwn o before r after
  own_same o p before after r e h = rw e h

  -- a promise of a lent list is one of a working list
  pub own_of_fills : (o p : Outcome (List A)) (before after : List A) (r : Result ℕ Refusal) → o ≡ p → Fills p before r after → FillsOwn o before r after
  own_of_fills o p before after r e h =
      rw e (record { answer = h.answer; lent = λ xs is. h.lent ∙ ap (λ (q : Outcome (List A)). laid q before) is })

  -- what a working list then holds that was filled whole
  pub own_made : (o : Outcome (List A)) (before after : List A) (r : Result ℕ Refusal) (n : ℕ) → r ≡ Ok n → FillsOwn o before r after → ((xs : List A) → o ≡ made xs → length xs ≡ length before) → o ≡ made after
  own_made o before after r n is fills whole =
      let m = made_of_answer o n (sym is ∙ fills.answer) in
      let long = whole m.0 m.1 in
      let over : drop (length m.0) before ≡ [] = drop_of_length-le before {i = length m.0} (omega arith) in
      m.1 ∙ ap made (sym (fills.lent m.0 m.1 ∙ ap (λ (l : List A). m.0 ++ l) over ∙ append-nil m.0))

  -- and in any case, at its front
  pub own_front : (o : Outcome (List A)) (before after : List A) (r : Result ℕ Refusal) (n : ℕ) → r ≡ Ok n → FillsOwn o before r after → (o ≡ made (take n after)) × (n ≤ length after)
  own_front o before after r n is fills =
      let m = made_of_answer o n (sym is ∙ fills.answer) in
      let rest = drop (length m.0) before in
      let there : after ≡ m.0 ++ rest = fills.lent m.0 m.1 in
      let front : take n after ≡ m.0 = ap (take n) there ∙ take_at m.0 rest n m.2 in
      (m.1 ∙ ap made (sym front), omega (arith, m.2, ap length there, length-append m.0 rest))
