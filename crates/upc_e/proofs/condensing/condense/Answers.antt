-- `upc_e::condensing::condense` meets its contract: what decides is the first rule that fits of those from `rule` on, one of them a turn.
use Rattle.std.proofs.Common.{◌≡◌, ◌∙◌, sym, ap, refl, ℕ, suc, ◌<◌, List, [], ◌∷◌, get_or, drop}
use Rattle.std.proofs.Math.Numerals.{add-one}
use Rattle.std.specs.Cmp.Lexicographic.{same_text, other_text}
use native.Mathlib.Omega.{arith}
use lib.Seq.{drop-cons}
use Rattle.refusal.specs.declared.Refusal.TheVariants.{Condensed}
use Rattle.refusal.specs.Outcome.{made, refused}
use Rattle.refusal.specs.Fills.{answered}
use Rattle.upc_e.specs.Condensing.{expanded, shorts, first_fit, condensed}
use Rattle.upc_e.proofs.CondensingLaws.{fit_first, fit_later}
use Rattle.upc_e.proofs.condensing.condense.Goals as goal

pub loop-rule-init : goal.loop-rule-init
unfolding condensed
loop-rule-init c = refl

-- one rule more, and what it leaves of the digits
module _ (digits : List ℕ) (rule : ℕ) (h : rule < 4) (short : List ℕ) (left : short ≡ get_or (shorts digits) rule []) where
  next : drop rule (shorts digits) ≡ short ∷ drop (suc rule) (shorts digits)
  unfolding shorts
  next = drop-cons (shorts digits) rule [] h ∙ ap (λ (first : List ℕ). first ∷ drop (suc rule) (shorts digits)) (sym left)

  fits : expanded short ≡ digits → first_fit (drop rule (shorts digits)) digits ≡ made short
  fits is = rw next (fit_first short (drop (suc rule) (shorts digits)) digits is)

  other : (expanded short ≡ digits → ⊥) → first_fit (drop rule (shorts digits)) digits ≡ first_fit (drop (suc rule) (shorts digits)) digits
  other apart = rw next (fit_later short (drop (suc rule) (shorts digits)) digits apart)

pub returns-then-eq : goal.returns-then-eq
returns-then-eq c =
    let is = sym c.expanded.ensures ∙ same_text _ _ c.if-eq.ensures in
    sym (ap answered (c.loop-rule.invariant ∙ fits c.args.digits.now c.loop-rule.rule c.loop-rule-test.true _ c.short_by-short.ensures is))

pub loop-rule-preserved : goal.loop-rule-preserved
loop-rule-preserved c =
    rw add-one
    (c.loop-rule.invariant
    ∙ other c.args.digits.now c.loop-rule.rule c.loop-rule-test.true _ c.short_by-short.ensures (λ is. other_text _ _ c.if-eq.ensures (c.expanded.ensures ∙ is)))

none : (digits : List ℕ) → first_fit (drop 4 (shorts digits)) digits ≡ refused Condensed
unfolding first_fit shorts
none digits = refl

pub returns : goal.returns
returns c =
    let digits = c.args.digits.now in
    let over : c.loop-rule.rule ≡ 4 = omega arith in
    sym (ap answered (rw over at c.loop-rule.invariant ∙ none digits))
