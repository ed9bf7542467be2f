-- Which short numbers are false: those whose digits a rule before their own fits too. What it leaves is another number, since its last digit is another;
-- and whether it fits shows in the digits that it takes for zeros.
use Prim.Native.Nat.{ℕ, ◌≤◌, ◌<◌}
use mathlib.Core.Path.{◌≡◌, refl, sym, ap, ◌∙◌}
use mathlib.Core.Bool.{Bool, true, false}
use mathlib.Core.Logic.{◌⊎◌, inl, inr, ◌↔◌}
use mathlib.Core.List.{List, [], ◌∷◌, ◌++◌}
use native.Mathlib.Decide.{dec_lt, ℕ_discrete}
use native.Mathlib.Omega.{arith}
use lib.ListN.{length, get_or}
use Rattle.laws.specs.Each.{Each}
use Rattle.refusal.specs.Outcome.{Outcome, made, refused}
use Rattle.patterns.specs.Patterns.{same}
use Rattle.patterns.proofs.PatternLaws.{same_true, same_refl, differs}
use Rattle.upc_e.specs.Condensing.{expanded, shorts, first_fit, condensed, same_as, is_own}
use Rattle.upc_e.proofs.CondensingLaws.{Rule, up_to_two, three, four, from_five, rule_of, by_two, by_three, by_four, by_more, of_expanded, first_fits, fit_first, fit_later, some_fit}

-- a short number is its own exactly where its digits are condensed to it
pub own_exactly : (short : List ℕ) → (is_own short ≡ true) ↔ (condensed (expanded short) ≡ made short)
unfolding is_own
own_exactly short = (there (condensed (expanded short)), λ e. rw e (same_refl short))
  where
    there : (o : Outcome (List ℕ)) → same_as short o ≡ true → o ≡ made short
    there (made other) e = ap made (same_true other short e)
    there (refused f) e = absurd (let z : ◌≡◌ {A = ℕ} 0 1 = cc in omega arith)

not_own : (short other : List ℕ) → condensed (expanded short) ≡ made other → (other ≡ short → ⊥) → is_own short ≡ false
unfolding is_own
not_own short other e apart = rw e (differs other short apart)

at : (place : ℕ) {xs ys : List ℕ} → xs ≡ ys → get_or xs place 0 ≡ get_or ys place 0
at place = ap (λ (zs : List ℕ). get_or zs place 0)

-- what comes first in a list of short numbers comes first in a longer one
fits_in_front : (front rest : List (List ℕ)) (digits short : List ℕ) → first_fit front digits ≡ made short → first_fit (front ++ rest) digits ≡ made short
unfolding first_fit
fits_in_front [] rest digits short e = absurd (let z : ◌≡◌ {A = ℕ} 0 1 = cc in omega arith)
fits_in_front (s ∷ front) rest digits short e = go (same (expanded s) digits) refl (fits_in_front front rest digits short)
  where
    go : (b : Bool) → same (expanded s) digits ≡ b → (first_fit front digits ≡ made short → first_fit (front ++ rest) digits ≡ made short) → first_fit (s ∷ (front ++ rest)) digits ≡ made short
    go true is later = sym (rw is) ∙ e
    go false is later = rw is (later (sym (rw is) ∙ e))

module _ (a b c d e last check : ℕ) where
  abbrev short : List ℕ
  short = a ∷ b ∷ c ∷ d ∷ e ∷ last ∷ check ∷ []

  -- the false ones, by their digits
  abbrev pub False : Type 0
  False = ((last ≡ 3) × (c ≤ 2)) ⊎ (((last ≡ 4) × (d ≡ 0)) ⊎ ((5 ≤ last) × (e ≡ 0)))

  -- a rule before its own fits
  fits_before : (before after : List (List ℕ)) (digits : List ℕ) → expanded short ≡ digits → shorts digits ≡ before ++ after → Each (λ (s : List ℕ). s ≡ short → ⊥) before → (k : ℕ) → k < length before → expanded (get_or before k []) ≡ digits → is_own short ≡ false
  unfolding condensed
  fits_before before after digits stands are others k h fits =
      let first = some_fit before digits k h fits in
      let apart = (first_fits (λ (s : List ℕ). s ≡ short → ⊥) before digits first.0 others first.1).1 in
      not_own short first.0 (rw (stands, are) (fits_in_front before after digits first.0 first.1)) apart

  -- what the first rule leaves of digits with a 0 at 8 doesn't stand for them unless the digit at 3 is at most 2
  first_not_lem : (i j : ℕ) (digits : List ℕ) → get_or digits 3 0 ≡ c → (c ≤ 2 → 0 ∷ a ∷ b ∷ c ∷ 0 ∷ 0 ∷ 0 ∷ 0 ∷ 0 ∷ i ∷ j ∷ check ∷ [] ≡ digits → ⊥) → expanded (a ∷ b ∷ 0 ∷ i ∷ j ∷ c ∷ check ∷ []) ≡ digits → ⊥
  first_not_lem i j digits third two =
      of_expanded (λ (whole : List ℕ). whole ≡ digits → ⊥) (a ∷ b ∷ 0 ∷ i ∷ j ∷ c ∷ check ∷ [])
      two
      (λ h is. omega (arith, at 3 is))
      (λ h is. omega (arith, at 3 is))
      (λ h is. omega (arith, at 3 is))

  abbrev Judged : Type 0
  Judged = (False × (is_own short ≡ false)) ⊎ ((False → ⊥) × (is_own short ≡ true))

  own_by : (digits : List ℕ) → expanded short ≡ digits → condensed digits ≡ made short → is_own short ≡ true
  own_by digits stands is = (own_exactly short).1 (ap condensed stands ∙ is)

  judged_two : last ≤ 2 → Judged
  unfolding condensed shorts expanded
  judged_two h = inr (none, own_by digits stands (fit_first short _ digits stands))
    where
      digits : List ℕ
      digits = 0 ∷ a ∷ b ∷ last ∷ 0 ∷ 0 ∷ 0 ∷ 0 ∷ c ∷ d ∷ e ∷ check ∷ []

      stands : expanded short ≡ digits
      stands = by_two a b c d e last check h

      none : False → ⊥
      none (inl both) = omega arith
      none (inr (inl both)) = omega arith
      none (inr (inr both)) = omega arith

  judged_three : last ≡ 3 → Judged
  unfolding condensed shorts expanded
  judged_three h = go (dec_lt 2 c)
    where
      digits : List ℕ
      digits = 0 ∷ a ∷ b ∷ c ∷ 0 ∷ 0 ∷ 0 ∷ 0 ∷ 0 ∷ d ∷ e ∷ check ∷ []

      first : List ℕ
      first = a ∷ b ∷ 0 ∷ d ∷ e ∷ c ∷ check ∷ []

      stands : expanded short ≡ digits
      stands = by_three a b c d e last check h

      none : 2 < c → False → ⊥
      none more (inl both) = omega arith
      none more (inr (inl both)) = omega arith
      none more (inr (inr both)) = omega arith

      go : Dec (2 < c) → Judged
      go (yes more) = inr (
        none more,
        own_by digits stands
            (fit_later first _ digits (first_not_lem d e digits refl (λ least is. omega arith))
            ∙ fit_first (a ∷ b ∷ c ∷ d ∷ e ∷ 3 ∷ check ∷ []) _ digits refl
            ∙ ap (λ (l : ℕ). made (a ∷ b ∷ c ∷ d ∷ e ∷ l ∷ check ∷ [])) (sym h)),
      )
      go (no most) =
          let least : c ≤ 2 = omega arith in
          inl (inl (h, least), fits_before (first ∷ []) _ digits stands refl (λ is. omega (arith, at 5 is), tt) 0 (omega arith) (by_two a b 0 d e c check least))

  judged_four : last ≡ 4 → Judged
  unfolding condensed shorts expanded
  judged_four h = go (ℕ_discrete d 0)
    where
      digits : List ℕ
      digits = 0 ∷ a ∷ b ∷ c ∷ d ∷ 0 ∷ 0 ∷ 0 ∷ 0 ∷ 0 ∷ e ∷ check ∷ []

      first : List ℕ
      first = a ∷ b ∷ 0 ∷ 0 ∷ e ∷ c ∷ check ∷ []

      second : List ℕ
      second = a ∷ b ∷ c ∷ 0 ∷ e ∷ 3 ∷ check ∷ []

      stands : expanded short ≡ digits
      stands = by_four a b c d e last check h

      none : (d ≡ 0 → ⊥) → False → ⊥
      none some (inl both) = omega arith
      none some (inr (inl both)) = some both.1
      none some (inr (inr both)) = omega arith

      go : Dec (d ≡ 0) → Judged
      go (yes is) = inl (
        inr (inl (h, is)),
        fits_before (first ∷ second ∷ []) _ digits stands refl (λ same. omega (arith, at 2 same, at 5 same), (λ same. omega (arith, at 5 same), tt)) 1 (omega arith) (rw is),
      )
      go (no some) = inr (
        none some,
        own_by digits stands
            (fit_later first _ digits (first_not_lem 0 e digits refl (λ least is. some (sym (at 4 is))))
            ∙ fit_later second _ digits (λ is. some (sym (at 4 is)))
            ∙ fit_first (a ∷ b ∷ c ∷ d ∷ e ∷ 4 ∷ check ∷ []) _ digits refl
            ∙ ap (λ (l : ℕ). made (a ∷ b ∷ c ∷ d ∷ e ∷ l ∷ check ∷ [])) (sym h)),
      )

  judged_more : 5 ≤ last → Judged
  unfolding condensed shorts expanded
  judged_more h = go (ℕ_discrete e 0)
    where
      digits : List ℕ
      digits = 0 ∷ a ∷ b ∷ c ∷ d ∷ e ∷ 0 ∷ 0 ∷ 0 ∷ 0 ∷ last ∷ check ∷ []

      first : List ℕ
      first = a ∷ b ∷ 0 ∷ 0 ∷ last ∷ c ∷ check ∷ []

      second : List ℕ
      second = a ∷ b ∷ c ∷ 0 ∷ last ∷ 3 ∷ check ∷ []

      third : List ℕ
      third = a ∷ b ∷ c ∷ d ∷ last ∷ 4 ∷ check ∷ []

      stands : expanded short ≡ digits
      stands = by_more a b c d e last check h

      none : (e ≡ 0 → ⊥) → False → ⊥
      none some (inl both) = omega arith
      none some (inr (inl both)) = omega arith
      none some (inr (inr both)) = some both.1

      go : Dec (e ≡ 0) → Judged
      go (yes is) = inl (
        inr (inr (h, is)),
        fits_before (first ∷ second ∷ third ∷ []) _ digits stands refl
            (λ same. omega (arith, at 2 same, at 5 same), (λ same. omega (arith, at 5 same), (λ same. omega (arith, at 5 same), tt)))
            2 (omega arith) (rw is),
      )
      go (no some) = inr (
        none some,
        own_by digits stands
            (fit_later first _ digits (first_not_lem 0 last digits refl (λ least is. some (sym (at 5 is))))
            ∙ fit_later second _ digits (λ is. some (sym (at 5 is)))
            ∙ fit_later third _ digits (λ is. some (sym (at 5 is)))
            ∙ fit_first short _ digits stands),
      )

  judged : Judged
  judged = go (rule_of last)
    where
      go : Rule last → Judged
      go (up_to_two h) = judged_two h
      go (three h) = judged_three h
      go (four h) = judged_four h
      go (from_five h) = judged_more h

  pub false_exactly : (is_own short ≡ false) ↔ False
  false_exactly = (there judged, back judged)
    where
      there : Judged → is_own short ≡ false → False
      there (inl is) e = is.0
      there (inr is) e = absurd (let z : ◌≡◌ {A = ℕ} 0 1 = cc in omega arith)

      back : Judged → False → is_own short ≡ false
      back (inl is) f = is.1
      back (inr is) f = absurd (is.0 f)
