-- A table of patterns and the values of widths undo one another: the first equal pattern is equal, and where no two patterns are equal
-- it is the pattern's own.
use Prim.Native.Nat.{ℕ, ◌≤◌, ◌<◌}
use mathlib.Core.Path.{◌≡◌, refl, sym, ap, ap₂, ◌∙◌}
use mathlib.Core.Bool.{Bool, true, false, not}
use mathlib.Core.List.{List, [], ◌∷◌}
use native.Mathlib.Omega.{arith}
use lib.ListN.{length, get_or}
use lib.Dec.{T, eqb, eqb→eq}
use borrow.Author.Tests.{eqb-true, eq-eqb, not-false}
use Rattle.laws.proofs.Booleans.{both_hold, fails_unless}
use Rattle.laws.proofs.FirstLaws.{first_within, first_fails, pass_all}
use Rattle.laws.proofs.Tables.{every, at_entry}
use Rattle.patterns.specs.Patterns.{same, value_in}

pub same_true : (xs ys : List ℕ) → same xs ys ≡ true → xs ≡ ys
unfolding same
same_true [] [] e = refl
same_true [] (y ∷ ys) e = absurd (let z : ◌≡◌ {A = ℕ} 0 1 = cc in omega arith)
same_true (x ∷ xs) [] e = absurd (let z : ◌≡◌ {A = ℕ} 0 1 = cc in omega arith)
same_true (x ∷ xs) (y ∷ ys) e =
    let both = both_hold (eqb x y) (same xs ys) e in
    ap₂ (λ (w : ℕ) (ws : List ℕ). w ∷ ws) (eqb-true x y both.0) (same_true xs ys both.1)

pub same_refl : (xs : List ℕ) → same xs xs ≡ true
unfolding same
same_refl [] = refl
same_refl (x ∷ xs) = rw (eq-eqb x x refl) (same_refl xs)

pub same_false : (xs ys : List ℕ) → same xs ys ≡ false → xs ≡ ys → ⊥
same_false xs ys e p = let t : same xs ys ≡ true = ap (same xs) (sym p) ∙ same_refl xs in let z : ◌≡◌ {A = ℕ} 0 1 = cc in omega arith

pub differs : (xs ys : List ℕ) → (xs ≡ ys → ⊥) → same xs ys ≡ false
differs xs ys h = fails_unless (same xs ys) (λ e. h (same_true xs ys e))

pub value_within : (patterns : List (List ℕ)) (widths : List ℕ) → value_in patterns widths ≤ length patterns
unfolding value_in
value_within patterns widths = first_within (λ (pattern : List ℕ). not (same pattern widths)) patterns

pub pattern_at : (patterns : List (List ℕ)) (widths : List ℕ) → value_in patterns widths < length patterns → get_or patterns (value_in patterns widths) [] ≡ widths
unfolding value_in
pattern_at patterns widths h =
    same_true _ widths (not-false _ (first_fails (λ (pattern : List ℕ). not (same pattern widths)) patterns [] h))

pub value_none : (patterns : List (List ℕ)) (widths : List ℕ) → ((v : ℕ) → v < length patterns → get_or patterns v [] ≡ widths → ⊥) → value_in patterns widths ≡ length patterns
unfolding value_in
value_none patterns widths none =
    pass_all (λ (pattern : List ℕ). not (same pattern widths)) patterns [] (λ v h. rw (differs (get_or patterns v []) widths (none v h)))

-- no two patterns of a table are equal: a test that is computed over the table
abbrev pub distinct : List (List ℕ) → Bool
distinct patterns = every (λ (k : ℕ) (pattern : List ℕ). eqb (value_in patterns pattern) k) patterns

pub value_at : (patterns : List (List ℕ)) → T (distinct patterns) → (v : ℕ) → v < length patterns → value_in patterns (get_or patterns v []) ≡ v
value_at patterns t v h = eqb→eq _ v (at_entry (λ (k : ℕ) (pattern : List ℕ). eqb (value_in patterns pattern) k) [] patterns t v h)

-- the value of widths that are known to be a pattern
pub value_of : (patterns : List (List ℕ)) → T (distinct patterns) → (v : ℕ) (widths : List ℕ) → v < length patterns → get_or patterns v [] ≡ widths → value_in patterns widths ≡ v
value_of patterns t v widths h e = ap (value_in patterns) (sym e) ∙ value_at patterns t v h

-- equal patterns have equal values
pub one_value : (patterns : List (List ℕ)) → T (distinct patterns) → (u v : ℕ) → u < length patterns → v < length patterns → get_or patterns u [] ≡ get_or patterns v [] → u ≡ v
one_value patterns t u v hu hv e = sym (value_at patterns t u hu) ∙ value_of patterns t v (get_or patterns u []) hv (sym e)
