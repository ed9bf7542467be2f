-- A value is found by one look in a table and one comparison: the table gives the only value that the widths can have, so widths that
-- differ from that value's pattern have none. And what the answer then says of the value.
use Rattle.std.specs.Prelude.{Some, None}
use Prim.Native.Nat.{ℕ, ◌<◌}
use mathlib.Core.Path.{◌≡◌, refl, ap, ◌∙◌, subst}
use mathlib.Core.Bool.{Bool, true, false}
use mathlib.Core.List.{List, []}
use native.Mathlib.Omega.{arith}
use lib.ListN.{length, get_or}
use lib.Dec.{T, eqb, eqb→eq, ltb}
use borrow.Author.Tests.{lt-ltb, le-ltb, ltb-true, ltb-false}
use Rattle.laws.proofs.Tables.{every, at_entry}
use Rattle.patterns.specs.Patterns.{value_in}
use Rattle.patterns.specs.Matching.{answer_if, match_in, Candidate}
use Rattle.patterns.proofs.PatternLaws.{distinct, value_of, value_none, value_within}

-- a look in a table finds every pattern's own value: a test that is computed over the patterns
abbrev pub finds : (List ℕ → ℕ) → ℕ → List ℕ → Bool
finds look v pattern = eqb (look pattern) v

pub one_candidate : (look : List ℕ → ℕ) (patterns : List (List ℕ)) → T (every (finds look) patterns) → (widths : List ℕ) → Candidate patterns widths (look widths)
one_candidate look patterns t widths v h is =
    subst (λ (w : List ℕ). look w ≡ v) is (eqb→eq _ v (at_entry (finds look) [] patterns t v h))

module _ (patterns : List (List ℕ)) (widths : List ℕ) where
  module _ (v : ℕ) where
    pub match_found : T (distinct patterns) → v < length patterns → get_or patterns v [] ≡ widths → Some v ≡ match_in patterns widths
    match_found t h is = rw (value_of patterns t v widths h is, lt-ltb v (length patterns) h)

    pub match_none : Candidate patterns widths v → (v < length patterns → get_or patterns v [] ≡ widths → ⊥) → None ≡ match_in patterns widths
    match_none candidate none =
        let other : value_in patterns widths ≡ length patterns =
        value_none patterns widths (λ u h is.
        let e = candidate u h is in
        none (omega arith) (ap (λ (n : ℕ). get_or patterns n []) e ∙ is)) in
        rw (other, le-ltb (length patterns) (length patterns) (omega arith))

    pub value_of_match : Some v ≡ match_in patterns widths → (value_in patterns widths ≡ v) × (v < length patterns)
    value_of_match e = go (ltb (value_in patterns widths) (length patterns)) refl e
      where
        go : (b : Bool) → ltb (value_in patterns widths) (length patterns) ≡ b → Some v ≡ answer_if b (value_in patterns widths) → (value_in patterns widths ≡ v) × (v < length patterns)
        go true t is = let same : value_in patterns widths ≡ v = cc in (same, omega (arith, ltb-true (value_in patterns widths) (length patterns) t))
        go false t is = absurd (let z : ◌≡◌ {A = ℕ} 0 1 = cc in omega arith)

  pub value_of_nothing : None ≡ match_in patterns widths → value_in patterns widths ≡ length patterns
  value_of_nothing e = go (ltb (value_in patterns widths) (length patterns)) refl e
    where
      go : (b : Bool) → ltb (value_in patterns widths) (length patterns) ≡ b → None ≡ answer_if b (value_in patterns widths) → value_in patterns widths ≡ length patterns
      go true t is = absurd (let z : ◌≡◌ {A = ℕ} 0 1 = cc in omega arith)
      go false t is = omega (arith, ltb-false (value_in patterns widths) (length patterns) t, value_within patterns widths)
