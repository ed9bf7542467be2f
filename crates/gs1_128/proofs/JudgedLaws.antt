-- Values pass where they are FNC1, some others and the check of all these: the last is set apart and compared with the check of those
-- before it, then the first with FNC1.
use Prim.Native.Nat.{ℕ, suc, ◌+◌, ◌-◌, ◌≤◌}
use mathlib.Core.Path.{◌≡◌, sym, ap, ◌∙◌}
use mathlib.Core.List.{List, [], ◌∷◌, ◌++◌}
use mathlib.Core.Logic.{◌↔◌}
use native.Mathlib.Omega.{arith}
use lib.ListN.{length, get_or, take, drop, length-append}
use lib.Seq.{take_at, take_all, take-suc, get_or_at}
use lib.Dec.{eqb}
use borrow.Author.Tests.{eq-eqb, eqb-true}
use Rattle.refusal.specs.declared.Refusal.TheVariants.{CheckCharacter, FirstCharacter}
use Rattle.refusal.specs.Outcome.{made, ◌>>◌, must}
use Rattle.refusal.proofs.OutcomeLaws.{made_same, must_made}
use Rattle.code128.specs.Check.{check_of}
use Rattle.gs1_128.specs.Symbol.{with_check}
use Rattle.gs1_128.specs.Scanning.{judged_values}

module _ (start : ℕ) where
  judged_of_checked : (between : List ℕ) → judged_values start (with_check start (102 ∷ between)) ≡ made between
  unfolding judged_values
  judged_of_checked between =
      let all : List ℕ = 102 ∷ between in
      let check = check_of start all in
      let last : length (with_check start all) - 1 ≡ length all = simp length-append (omega arith) in
      let inner : length (with_check start all) - 2 ≡ length between = simp length-append (omega arith) in
      rw (last, inner, get_or_at all check [] 0 (length all), take_at all (check ∷ []) (length all), take_at between (check ∷ []) (length between), eq-eqb check check)

  checked_of_judged : (values between : List ℕ) → 2 ≤ length values → judged_values start values ≡ made between → values ≡ with_check start (102 ∷ between)
  unfolding judged_values
  checked_of_judged [] between h e = absurd (omega arith)
  checked_of_judged (first ∷ []) between h e = absurd (omega arith)
  checked_of_judged (first ∷ second ∷ more) between h e =
      let rest = second ∷ more in
      let n = length more in
      let front = take n rest in
      let last = get_or rest n 0 in
      let all_but_one : length (first ∷ rest) - 1 ≡ suc n = omega arith in
      let all-but-two : length (first ∷ rest) - 2 ≡ n = omega arith in
      let a =
      must_made (eqb last (check_of start (first ∷ front))) CheckCharacter (must (eqb first 102) FirstCharacter >> made front) between
      (rw (all_but_one, all-but-two) at e) in
      let b = must_made (eqb first 102) FirstCharacter (made front) between a.1 in
      let parts : rest ≡ front ++ (last ∷ []) = sym (take_all (suc n) rest (omega arith)) ∙ take-suc rest n 0 (omega arith) in
      let check : last ≡ check_of start (first ∷ front) = eqb-true _ _ a.0 in
      let fnc1 : first ≡ 102 = eqb-true first 102 b.0 in
      let same : front ≡ between = made_same front between b.1 in
      cc

  -- two values or more are judged right exactly where they are FNC1, the values that are made, and their check
  pub judged_as_checked : (values between : List ℕ) → 2 ≤ length values → (judged_values start values ≡ made between) ↔ (values ≡ with_check start (102 ∷ between))
  judged_as_checked values between h = (checked_of_judged values between h, λ is. rw is (judged_of_checked between))

  -- where they stand among the values judged
  pub between_stands : (values between : List ℕ) (k : ℕ) → k + 2 ≡ length values → judged_values start values ≡ made between → take k (drop 1 values) ≡ between
  between_stands values between k h e =
      let is = checked_of_judged values between (omega arith) e in
      let few : length between ≡ k = omega (arith, ap length is, length-append between (check_of start (102 ∷ between) ∷ [])) in
      rw is (take_at between (check_of start (102 ∷ between) ∷ []) k few)
