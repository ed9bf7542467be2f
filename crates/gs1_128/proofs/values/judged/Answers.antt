-- `values::judged` meets its contract: the last value is compared with the check of the others, and then the first with FNC1, in the rule's
-- order.
use Rattle.std.specs.Prelude.{Ok}
use Prim.Native.Nat.{ℕ, ◌-◌}
use mathlib.Core.Path.{◌≡◌, sym, ap, ◌∙◌}
use mathlib.Core.List.{List}
use native.Mathlib.Nat.{sub-zero}
use native.Mathlib.Omega.{arith}
use lib.ListN.{length, get_or, take, drop, length-take, length-drop}
use borrow.Author.Tests.{eq-eqb, ne_eqb}
use Rattle.refusal.specs.declared.Refusal.TheVariants.{CheckCharacter, FirstCharacter}
use Rattle.refusal.specs.Outcome.{made, refused}
use Rattle.refusal.specs.Fills.{answer_of}
use Rattle.code128.specs.Check.{check_of}
use Rattle.gs1_128.specs.Scanning.{judged_values}
use Rattle.gs1_128.proofs.values.judged.Goals.{After-check_of}
use Rattle.gs1_128.proofs.values.judged.Goals as goal

module _ (start : ℕ) (values : List ℕ) where
  abbrev last : ℕ
  last = length values - 1

  unchecked : (get_or values last 0 ≡ check_of start (take last values) → ⊥) → judged_values start values ≡ refused CheckCharacter
  unfolding judged_values
  unchecked ne = rw (ne_eqb _ _ ne)

  module _ (checks : get_or values last 0 ≡ check_of start (take last values)) where
    unmarked : (get_or values 0 0 ≡ 102 → ⊥) → judged_values start values ≡ refused FirstCharacter
    unfolding judged_values
    unmarked ne = rw (eq-eqb _ _ checks, ne_eqb _ _ ne)

    right : get_or values 0 0 ≡ 102 → judged_values start values ≡ made (take (length values - 2) (drop 1 values))
    unfolding judged_values
    right first = rw (eq-eqb _ _ checks, eq-eqb _ _ first)

check-is : (c : After-check_of) → c.check_of.result ≡ check_of c.args.start (take (length c.args.values.now - 1) c.args.values.now)
check-is c =
    let values = c.args.values.now in
    let start = c.args.start in
    c.check_of.ensures ∙ ap (λ (n : ℕ). check_of start (take n values)) (sub-zero (length values - 1))

pub returns-then-from-check_of : goal.returns-then-from-check_of
returns-then-from-check_of c =
    let start = c.args.start in
    let values = c.args.values.now in
    sym (ap answer_of (unchecked start values (λ e. c.if-from-check_of.true (c.from.ensures ∙ e ∙ sym (check-is (goal.at.returns-then-from-check_of c).After-check_of)))))

pub returns-then-values-ne-FNC1 : goal.returns-then-values-ne-FNC1
returns-then-values-ne-FNC1 c =
    let start = c.args.start in
    let values = c.args.values.now in
    sym (ap answer_of (unmarked start values (sym c.from.ensures ∙ c.if-from-check_of.false ∙ check-is (goal.at.returns-then-values-ne-FNC1 c).After-check_of) c.if-values-ne-FNC1.true))

pub returns : goal.returns
returns c =
    let values = c.args.values.now in
    let start = c.args.start in
    let count : length values - 1 - 1 ≡ length (take (length values - 2) (drop 1 values)) = simp (length-take, length-drop) (omega arith) in
    ap Ok count ∙ sym (ap answer_of (right start values (sym c.from.ensures ∙ c.if-from-check_of.false ∙ check-is (goal.at.returns c).After-check_of) c.if-values-ne-FNC1.false))
