-- Condensing and expanding: what is condensed stands for the digits that it came from; and a short number is what its own rule leaves of the
-- digits that it stands for, so some rule fits those.
use Prim.Native.Nat.{ℕ, zero, suc, ◌≤◌, ◌<◌}
use mathlib.Core.Path.{◌≡◌, refl, sym, ap, ◌∙◌}
use mathlib.Core.Bool.{Bool, true, false}
use mathlib.Core.Logic.{◌↔◌}
use mathlib.Core.List.{List, [], ◌∷◌}
use native.Mathlib.Nat.{le_of_suc-le-suc, not-suc-le-zero}
use native.Mathlib.Decide.{dec_lt, ℕ_discrete}
use native.Mathlib.Omega.{arith}
use lib.ListN.{length, get_or}
use borrow.Author.Tests.{le-leb, lt-leb, ne_eqb}
use Rattle.laws.specs.Below.{Below}
use Rattle.laws.specs.Each.{Each}
use Rattle.laws.proofs.BelowLaws.{below_each, below_anywhere}
use Rattle.laws.proofs.Listed.{listed, listed_whole}
use Rattle.refusal.specs.Outcome.{made}
use Rattle.refusal.proofs.OutcomeLaws.{made_same}
use Rattle.patterns.specs.Patterns.{same}
use Rattle.patterns.proofs.PatternLaws.{same_true, same_refl, differs}
use Rattle.upc_e.specs.Condensing.{expanded_from, expanded, shorts, first_fit, condensed}

-- the rule that the last of the six digits chooses
pub data Rule (last : ℕ) : Type 0 where
  up_to_two : last ≤ 2 → Rule last
  three : last ≡ 3 → Rule last
  four : last ≡ 4 → Rule last
  from_five : 5 ≤ last → Rule last

pub rule_of : (last : ℕ) → Rule last
rule_of last = go (dec_lt last 3) (ℕ_discrete last 3) (ℕ_discrete last 4)
  where
    go : Dec (last < 3) → Dec (last ≡ 3) → Dec (last ≡ 4) → Rule last
    go (yes h) other again = up_to_two (omega arith)
    go (no h) (yes e) again = three e
    go (no h) (no e) (yes e') = four e'
    go (no h) (no e) (no e') = from_five (omega arith)

-- the digits by each rule
module _ (a b c d e last check : ℕ) where
  pub by_two : last ≤ 2 → expanded_from a b c d e last check ≡ 0 ∷ a ∷ b ∷ last ∷ 0 ∷ 0 ∷ 0 ∷ 0 ∷ c ∷ d ∷ e ∷ check ∷ []
  by_two h = rw (le-leb last 2 h)

  pub by_three : last ≡ 3 → expanded_from a b c d e last check ≡ 0 ∷ a ∷ b ∷ c ∷ 0 ∷ 0 ∷ 0 ∷ 0 ∷ 0 ∷ d ∷ e ∷ check ∷ []
  by_three h = rw h

  pub by_four : last ≡ 4 → expanded_from a b c d e last check ≡ 0 ∷ a ∷ b ∷ c ∷ d ∷ 0 ∷ 0 ∷ 0 ∷ 0 ∷ 0 ∷ e ∷ check ∷ []
  by_four h = rw h

  pub by_more : 5 ≤ last → expanded_from a b c d e last check ≡ 0 ∷ a ∷ b ∷ c ∷ d ∷ e ∷ 0 ∷ 0 ∷ 0 ∷ 0 ∷ last ∷ check ∷ []
  by_more h = rw (lt-leb last 2 (omega arith), ne_eqb last 3 (λ is. omega arith), ne_eqb last 4 (λ is. omega arith))

-- by its rule, what is true of the digits of a short number
module _ (P : List ℕ → Type 0) (short : List ℕ) where
  abbrev at : ℕ → ℕ
  at place = get_or short place 0

  pub of_expanded : (at 5 ≤ 2 → P (0 ∷ at 0 ∷ at 1 ∷ at 5 ∷ 0 ∷ 0 ∷ 0 ∷ 0 ∷ at 2 ∷ at 3 ∷ at 4 ∷ at 6 ∷ []))
      → (at 5 ≡ 3 → P (0 ∷ at 0 ∷ at 1 ∷ at 2 ∷ 0 ∷ 0 ∷ 0 ∷ 0 ∷ 0 ∷ at 3 ∷ at 4 ∷ at 6 ∷ []))
      → (at 5 ≡ 4 → P (0 ∷ at 0 ∷ at 1 ∷ at 2 ∷ at 3 ∷ 0 ∷ 0 ∷ 0 ∷ 0 ∷ 0 ∷ at 4 ∷ at 6 ∷ []))
      → (5 ≤ at 5 → P (0 ∷ at 0 ∷ at 1 ∷ at 2 ∷ at 3 ∷ at 4 ∷ 0 ∷ 0 ∷ 0 ∷ 0 ∷ at 5 ∷ at 6 ∷ []))
      → P (expanded short)
  unfolding expanded
  of_expanded two three' four' more = go (rule_of (at 5))
    where
      go : Rule (at 5) → P (expanded short)
      go (up_to_two h) = rw (by_two (at 0) (at 1) (at 2) (at 3) (at 4) (at 5) (at 6) h) (two h)
      go (three h) = rw (by_three (at 0) (at 1) (at 2) (at 3) (at 4) (at 5) (at 6) h) (three' h)
      go (four h) = rw (by_four (at 0) (at 1) (at 2) (at 3) (at 4) (at 5) (at 6) h) (four' h)
      go (from_five h) = rw (by_more (at 0) (at 1) (at 2) (at 3) (at 4) (at 5) (at 6) h) (more h)

pub length_of_expanded : (short : List ℕ) → length (expanded short) ≡ 12
length_of_expanded short = of_expanded (λ (digits : List ℕ). length digits ≡ 12) short (λ h. refl) (λ h. refl) (λ h. refl) (λ h. refl)

module _ (short : List ℕ) (below : Below 10 short) where
  abbrev nought : 0 < 10
  nought = omega arith

  digit : (i : ℕ) → get_or short i 0 < 10
  digit = below_anywhere 10 short nought below

  pub expanded_below : Below 10 (expanded short)
  expanded_below =
      below_each 10 (expanded short)
      (of_expanded (Each (λ (x : ℕ). x < 10)) short
      (λ h. (nought, (digit 0, (digit 1, (digit 5, (nought, (nought, (nought, (nought, (digit 2, (digit 3, (digit 4, (digit 6, tt)))))))))))))
      (λ h. (nought, (digit 0, (digit 1, (digit 2, (nought, (nought, (nought, (nought, (nought, (digit 3, (digit 4, (digit 6, tt)))))))))))))
      (λ h. (nought, (digit 0, (digit 1, (digit 2, (digit 3, (nought, (nought, (nought, (nought, (nought, (digit 4, (digit 6, tt)))))))))))))
      (λ h. (nought, (digit 0, (digit 1, (digit 2, (digit 3, (digit 4, (nought, (nought, (nought, (nought, (digit 5, (digit 6, tt))))))))))))))

-- what the first rule that fits leaves stands for the digits, and is one of what the rules leave
pub first_fits : (P : List ℕ → Type 0) (list : List (List ℕ)) (digits short : List ℕ) → Each P list → first_fit list digits ≡ made short → (expanded short ≡ digits) × P short
unfolding first_fit
first_fits P [] digits short each e = absurd (let z : ◌≡◌ {A = ℕ} 0 1 = cc in omega arith)
first_fits P (s ∷ more) digits short each e = go (same (expanded s) digits) refl (first_fits P more digits short each.1) e
  where
    go : (b : Bool) → same (expanded s) digits ≡ b → (first_fit more digits ≡ made short → (expanded short ≡ digits) × P short) → first_fit (s ∷ more) digits ≡ made short → (expanded short ≡ digits) × P short
    go true is rest e =
        let found : s ≡ short = made_same s short (sym (rw is) ∙ e) in
        rw (← found) (same_true (expanded s) digits is, each.0)
    go false is rest e = rest (sym (rw is) ∙ e)

-- what the first rule leaves, where it fits, and what the others do, where it doesn't
pub fit_first : (short : List ℕ) (more : List (List ℕ)) (digits : List ℕ) → expanded short ≡ digits → first_fit (short ∷ more) digits ≡ made short
unfolding first_fit
fit_first short more digits is = rw (is, same_refl digits)

pub fit_later : (short : List ℕ) (more : List (List ℕ)) (digits : List ℕ) → (expanded short ≡ digits → ⊥) → first_fit (short ∷ more) digits ≡ first_fit more digits
unfolding first_fit
fit_later short more digits other = rw (differs (expanded short) digits other)

-- where a rule fits, something is made
pub some_fit : (list : List (List ℕ)) (digits : List ℕ) (k : ℕ) → k < length list → expanded (get_or list k []) ≡ digits → (short : List ℕ) × (first_fit list digits ≡ made short)
unfolding first_fit
some_fit [] digits k h is = absurd (not-suc-le-zero h)
some_fit (s ∷ more) digits zero h is = (s, fit_first s more digits is)
some_fit (s ∷ more) digits (suc k) h is = go (same (expanded s) digits) refl (some_fit more digits k (le_of_suc-le-suc h) is)
  where
    go : (b : Bool) → same (expanded s) digits ≡ b → (short : List ℕ) × (first_fit more digits ≡ made short) → (short : List ℕ) × (first_fit (s ∷ more) digits ≡ made short)
    go true e later = (s, rw e)
    go false e later = (later.0, rw e later.1)

module _ (digits short : List ℕ) (is : condensed digits ≡ made short) where
  pub condensed_made : (expanded short ≡ digits) × (length short ≡ 7)
  unfolding condensed shorts
  condensed_made = first_fits (λ (s : List ℕ). length s ≡ 7) (shorts digits) digits short (refl, (refl, (refl, (refl, tt)))) is

  pub condensed_below : Below 10 digits → Below 10 short
  unfolding condensed shorts
  condensed_below below =
      let digit : (k : ℕ) → get_or digits k 0 < 10 = below_anywhere 10 digits (omega arith) below in
      below_each 10 short
      (first_fits (Each (λ (x : ℕ). x < 10)) (shorts digits) digits short (
        (digit 1, (digit 2, (digit 8, (digit 9, (digit 10, (digit 3, (digit 11, tt))))))),
        (
          (digit 1, (digit 2, (digit 3, (digit 9, (digit 10, (omega arith, (digit 11, tt))))))),
          (
            (digit 1, (digit 2, (digit 3, (digit 4, (digit 10, (omega arith, (digit 11, tt))))))),
            ((digit 1, (digit 2, (digit 3, (digit 4, (digit 5, (digit 10, (digit 11, tt))))))), tt),
          ),
        ),
      ) is).1

-- a short number is what its own rule leaves
left_listed : (short : List ℕ) → (k : ℕ) × (k < 4) × (get_or (shorts (expanded short)) k [] ≡ listed 0 7 short)
unfolding shorts
left_listed short =
    of_expanded (λ (digits : List ℕ). (k : ℕ) × (k < 4) × (get_or (shorts digits) k [] ≡ listed 0 7 short)) short
    (λ h. (0, omega arith, refl))
    (λ h. (1, omega arith, rw h))
    (λ h. (2, omega arith, rw h))
    (λ h. (3, omega arith, refl))

left_again : (short : List ℕ) → length short ≡ 7 → (k : ℕ) × (k < 4) × (get_or (shorts (expanded short)) k [] ≡ short)
left_again short long = let left = left_listed short in (left.0, left.1, left.2 ∙ listed_whole 7 short long)

-- twelve digits are condensed exactly where some seven stand for them: 14 in writing means that no rule fits, in whatever order they are tried
pub condensed_exactly : (digits : List ℕ) → Below 10 digits
    → ((short : List ℕ) × (condensed digits ≡ made short)) ↔ ((short : List ℕ) × (length short ≡ 7) × Below 10 short × (expanded short ≡ digits))
unfolding condensed shorts
condensed_exactly digits below = (
  λ found.
      let is = condensed_made digits found.0 found.1 in
      (found.0, is.1, condensed_below digits found.0 found.1 below, is.0),
  λ stands.
      let own = left_again stands.0 stands.1 in
      some_fit (shorts digits) digits own.0 own.1
      (ap (λ (ds : List ℕ). expanded (get_or (shorts ds) own.0 [])) (sym stands.3) ∙ ap expanded own.2 ∙ stands.3),
)
