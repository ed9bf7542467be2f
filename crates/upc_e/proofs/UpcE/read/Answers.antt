-- `upc_e::UpcE::read` meets its contract: the scan's refusal is the rule's, then that of the check digit, then that of a false symbol; of any other
-- the digits are laid.
use Rattle.std.proofs.Common.{◌≡◌, ◌∙◌, sym, ap, refl, subst, List, ℕ, Bool, true, false, length, map}
use Rattle.std.proofs.Math.ListN.{length-map}
use native.Mathlib.Omega.{arith}
use Rattle.laws.specs.Below.{Below}
use Rattle.laws.proofs.Results.{passed_on}
use Rattle.refusal.specs.declared.Refusal.{Refusal}
use Rattle.refusal.specs.declared.Refusal.TheVariants.{CheckDigit}
use Rattle.refusal.specs.Outcome.{Outcome, made, refused, must, ◌>>◌}
use Rattle.refusal.proofs.OutcomeLaws.{made_not_refused, must_made, made_same}
use Rattle.refusal.proofs.FillsLaws.{refused_of_answer, refused_of_answered, made_of_answered, fills_refused, fills_same, laying_made}
use Rattle.refusal.proofs.OwnLaws.{own_of_fills, own_made}
use Rattle.digits.specs.Check.{is_right}
use Rattle.digits.specs.Numbered.{byte_of, number_read}
use Rattle.upc_e.specs.Condensing.{expanded, is_own}
use Rattle.upc_e.specs.UpcE.{reads}
use Rattle.upc_e.proofs.CondensingLaws.{length_of_expanded, expanded_below}
use Rattle.upc_e.proofs.SymbolLaws.{symbol_of_scan}
use Rattle.upc_e.proofs.UpcE.read.Goals.{After-is_own}
use Rattle.upc_e.proofs.UpcE.read.Goals as goal

pub returns-in_err-short : goal.returns-in_err-short
unfolding reads
returns-in_err-short c =
    let f = c.in_err-short.field-0.0 in
    rw (passed_on _ f c.from_residual.ensures.1) (fills_refused _ f _ (rw (refused_of_answered _ f c.in_err-short.ensures)))

pub lay_values-requires-clause-below : goal.lay_values-requires-clause-below
lay_values-requires-clause-below c =
    let short = c.in_ok-short.short in
    let scanned = symbol_of_scan c.args.widths.now short (made_of_answered _ short c.in_ok-short.ensures) in
    subst (Below 10) (sym c.expanded-digits.ensures) (expanded_below short scanned.2)

-- the bytes of the digits fit in the twelve places that they are laid in, so all that refuses is the check digit
module _ (short : List ℕ) where
  abbrev whole : List ℕ
  whole = expanded short

  laid-twelve : number_read (made whole) 12 ≡ (must (is_right whole) CheckDigit >> made (map byte_of whole))
  unfolding number_read
  laid-twelve = rw (laying_made (map byte_of whole) 12 (omega (arith, length-map whole byte_of, length_of_expanded short)))

  wrong : (f : Refusal) (rest : Outcome (List ℕ)) → number_read (made whole) 12 ≡ refused f → (must (is_right whole) CheckDigit >> rest) ≡ refused f
  wrong f rest e = go (is_right whole) (sym laid-twelve ∙ e)
    where
      go : (is : Bool) → (must is CheckDigit >> made (map byte_of whole)) ≡ refused f → (must is CheckDigit >> rest) ≡ refused f
      go true e = absurd (made_not_refused _ f e)
      go false e = e

  right : (bytes : List ℕ) → number_read (made whole) 12 ≡ made bytes → (is_right whole ≡ true) × (map byte_of whole ≡ bytes)
  right bytes e =
      let parts = must_made (is_right whole) CheckDigit (made (map byte_of whole)) bytes (sym laid-twelve ∙ e) in
      (parts.0, made_same _ _ parts.1)

same-rule : (short digits : List ℕ) → digits ≡ expanded short → number_read (made (expanded short)) 12 ≡ number_read (made digits) 12
same-rule short digits is = ap (λ (ds : List ℕ). number_read (made ds) 12) (sym is)

pub returns-in_err-lay_values : goal.returns-in_err-lay_values
unfolding reads
returns-in_err-lay_values c =
    let short = c.in_ok-short.short in
    let f = c.in_err-lay_values.field-0.0 in
    let refusal = same-rule short _ c.expanded-digits.ensures ∙ refused_of_answer _ f c.in_err-lay_values.ensures.answer in
    rw (passed_on _ f c.from_residual-in_err-lay_values.ensures.1)
    (fills_refused _ f _ (rw (made_of_answered _ short c.in_ok-short.ensures) (wrong short f _ refusal)))

passed : (c : After-is_own) → (is_right (expanded c.in_ok-short.short) ≡ true) × (map byte_of (expanded c.in_ok-short.short) ≡ c.lay_values.new.lent)
passed c =
    let short = c.in_ok-short.short in
    let bytes = c.lay_values.new.lent in
    let long : (xs : List ℕ) → number_read (made (expanded short)) 12 ≡ made xs → length xs ≡ 12 = λ xs e. ap length (sym (right short xs e).1) ∙ length-map (expanded short) byte_of ∙ length_of_expanded short in
    right short bytes (own_made _ _ _ _ _ c.in_ok-lay_values.was (own_of_fills _ _ _ _ _ (same-rule short _ c.expanded-digits.ensures) c.lay_values.ensures) long)

pub returns-then-not-is_own : goal.returns-then-not-is_own
unfolding reads
returns-then-not-is_own c =
    let short = c.in_ok-short.short in
    let false-symbol : is_own short ≡ false = sym c.is_own.ensures ∙ c.if-not-is_own.true in
    fills_refused _ _ _ (rw (made_of_answered _ short c.in_ok-short.ensures, (passed (goal.at.returns-then-not-is_own c).After-is_own).0, false-symbol) refl)

pub returns : goal.returns
unfolding reads
returns c =
    let short = c.in_ok-short.short in
    let passes = passed (goal.at.returns c).After-is_own in
    let own : is_own short ≡ true = sym c.is_own.ensures ∙ c.if-not-is_own.false in
    fills_same _ _ _ _ _ (rw (made_of_answered _ short c.in_ok-short.ensures, passes.0, own, passes.1) refl) c.lay.ensures
