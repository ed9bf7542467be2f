-- Characters one after the other: a step of the scan, as a loop over it meets it; and scanning what was drawn, and drawing what was
-- scanned, gives back what there was, a character at a time.
use Prim.Native.Nat.{ℕ, zero, suc, ◌+◌, ◌-◌, ◌*◌, ◌<◌}
use mathlib.Core.Path.{◌≡◌, refl, sym, ap, ap₂, ◌∙◌, subst}
use mathlib.Core.Bool.{Bool}
use mathlib.Core.List.{List, [], ◌∷◌, ◌++◌, append_assoc}
use native.Mathlib.Nat.{add-zero, mul-suc, mul-zero, mul-one, mul-add, add_comm, sub_self, sub-zero}
use native.Mathlib.Omega.{arith}
use lib.ListN.{length, get_or, take, drop, length-append}
use lib.Seq.{take_at, drop_at, drop-drop, take-add}
use lib.Dec.{T, eqb, eqb→eq, ltb}
use borrow.Author.Tests.{lt-ltb, le-ltb, ltb-true}
use Rattle.laws.specs.Below.{Below}
use Rattle.laws.proofs.BelowLaws.{below_of_nil, below_more, below_first, below_rest}
use Rattle.laws.proofs.Tables.{every, at_entry}
use Rattle.refusal.specs.declared.Refusal.TheVariants.{Pattern}
use Rattle.refusal.specs.Outcome.{Outcome, made, refused, ◌>>=◌}
use Rattle.refusal.proofs.OutcomeLaws.{made_same, must_made, bind_made}
use Rattle.patterns.specs.Patterns.{value_in, drawn, characters}
use Rattle.patterns.proofs.PatternLaws.{pattern_at, distinct, value_at}

-- an outcome with values in front of those that it makes
abbrev pub prefixed : List ℕ → Outcome (List ℕ) → Outcome (List ℕ)
prefixed done (made values) = made (done ++ values)
prefixed done (refused f) = refused f

pub prefixed_twice : (xs ys : List ℕ) (o : Outcome (List ℕ)) → prefixed xs (prefixed ys o) ≡ prefixed (xs ++ ys) o
prefixed_twice xs ys (made values) = ap made (sym (append_assoc xs ys values))
prefixed_twice xs ys (refused f) = refl

pub prefixed_none : (o : Outcome (List ℕ)) → o ≡ prefixed [] o
prefixed_none (made values) = refl
prefixed_none (refused f) = refl

bound : (v : ℕ) (o : Outcome (List ℕ)) → (o >>= (λ (values : List ℕ). made (v ∷ values))) ≡ prefixed (v ∷ []) o
bound v (made values) = refl
bound v (refused f) = refl

module _ (patterns : List (List ℕ)) (size : ℕ) where
  pub step_more : (count place : ℕ) (widths : List ℕ) (v : ℕ) → value_in patterns (take size widths) ≡ v → v < length patterns → characters patterns size (suc count) place widths ≡ prefixed (v ∷ []) (characters patterns size count (suc place) (drop size widths))
  unfolding characters
  step_more count place widths v e below = rw (e, lt-ltb v (length patterns) below) (bound v (characters patterns size count (suc place) (drop size widths)))

  pub step_stop : (count place : ℕ) (widths : List ℕ) → value_in patterns (take size widths) ≡ length patterns → characters patterns size (suc count) place widths ≡ refused (Pattern place)
  unfolding characters
  step_stop count place widths e = rw (e, le-ltb (length patterns) (length patterns) (omega arith))

module _ (patterns : List (List ℕ)) (size count place : ℕ) (widths : List ℕ) where
  -- what is left to scan when i characters have been
  abbrev pub left : ℕ → Outcome (List ℕ)
  left i = characters patterns size (count - i) (place + i) (drop (size * i) widths)

  pub left_at_first : characters patterns size count place widths ≡ left 0
  left_at_first = rw (sub-zero, add-zero, mul-zero)

  pub left_at_last : left count ≡ made []
  unfolding characters
  left_at_last = rw sub_self

  pub left_more : (i v : ℕ) → i < count → value_in patterns (take size (drop (size * i) widths)) ≡ v → v < length patterns → left i ≡ prefixed (v ∷ []) (left (i + 1))
  left_more i v h e below =
      let more : count - i ≡ suc (count - (i + 1)) = omega arith in
      let next : suc (place + i) ≡ place + (i + 1) = omega arith in
      let on : drop size (drop (size * i) widths) ≡ drop (size * (i + 1)) widths =
      drop-drop size (size * i) widths ∙ ap (λ (n : ℕ). drop n widths) (sym (mul-add size i 1 ∙ ap (λ (n : ℕ). size * i + n) (mul-one size))) in
      rw (more, ← next, ← on) (step_more patterns size (count - (i + 1)) (place + i) (drop (size * i) widths) v e below)

  pub left_stop : (i : ℕ) → i < count → value_in patterns (take size (drop (size * i) widths)) ≡ length patterns → left i ≡ refused (Pattern (place + i))
  left_stop i h e =
      let more : count - i ≡ suc (count - (i + 1)) = omega arith in
      rw more (step_stop patterns size (count - (i + 1)) (place + i) (drop (size * i) widths) e)

-- every pattern of a table has the same size: a test that is computed over the table
abbrev pub sized : ℕ → List (List ℕ) → Bool
sized size patterns = every (λ (k : ℕ) (pattern : List ℕ). eqb (length pattern) size) patterns

module _ (patterns : List (List ℕ)) (size : ℕ) where
  pub drawn_of_characters : (count place : ℕ) (widths values : List ℕ) → characters patterns size count place widths ≡ made values → (length values ≡ count) × (drawn patterns values ≡ take (size * count) widths) × Below (length patterns) values
  unfolding characters drawn
  drawn_of_characters zero place widths values e =
      let none : [] ≡ values = made_same [] values e in
      rw (← none, mul-zero) (refl, refl, below_of_nil (length patterns))
  drawn_of_characters (suc count) place widths values e =
      let v = value_in patterns (take size widths) in
      let m = must_made (ltb v (length patterns)) (Pattern place) _ values e in
      let below : v < length patterns = ltb-true v (length patterns) m.0 in
      let b = bind_made (characters patterns size count (suc place) (drop size widths)) (λ (vs : List ℕ). made (v ∷ vs)) values m.1 in
      let ih = drawn_of_characters count (suc place) (drop size widths) b.0 b.1 in
      subst
      (λ (vs : List ℕ). (length vs ≡ suc count) × (drawn patterns vs ≡ take (size * suc count) widths) × Below (length patterns) vs)
      (made_same (v ∷ b.0) values b.2) (
        ap suc ih.0,
        ap₂ (λ (row rest : List ℕ). row ++ rest) (pattern_at patterns (take size widths) below) ih.1
            ∙ sym (take-add size (size * count) widths)
            ∙ ap (λ (n : ℕ). take n widths) (add_comm size (size * count) ∙ sym (mul-suc size count)),
        below_more (length patterns) v b.0 below ih.2,
      )

module _ (patterns : List (List ℕ)) (size : ℕ) (sizes : T (sized size patterns)) where
  pub length_at : (v : ℕ) → v < length patterns → length (get_or patterns v []) ≡ size
  length_at v h = eqb→eq _ size (at_entry (λ (k : ℕ) (pattern : List ℕ). eqb (length pattern) size) [] patterns sizes v h)

  pub length_of_drawn : (values : List ℕ) → Below (length patterns) values → length (drawn patterns values) ≡ size * length values
  unfolding drawn
  length_of_drawn [] within = sym (mul-zero size)
  length_of_drawn (v ∷ values) within =
      length-append (get_or patterns v []) (drawn patterns values)
      ∙ ap₂ (λ (a b : ℕ). a + b) (length_at v (below_first _ v values within)) (length_of_drawn values (below_rest _ v values within))
      ∙ add_comm size (size * length values)
      ∙ sym (mul-suc size (length values))

  pub characters_of_drawn : T (distinct patterns) → (values : List ℕ) → Below (length patterns) values → (place : ℕ) (rest : List ℕ) → characters patterns size (length values) place (drawn patterns values ++ rest) ≡ made values
  unfolding characters drawn
  characters_of_drawn t [] within place rest = refl
  characters_of_drawn t (v ∷ values) within place rest =
      let below = below_first (length patterns) v values within in
      let row = get_or patterns v [] in
      let onward = drawn patterns values ++ rest in
      let whole : (row ++ drawn patterns values) ++ rest ≡ row ++ onward = append_assoc row (drawn patterns values) rest in
      let front : take size (row ++ onward) ≡ row = take_at row onward size (length_at v below) in
      let back : drop size (row ++ onward) ≡ onward = drop_at row onward size (length_at v below) in
      ap (characters patterns size (suc (length values)) place) whole
      ∙ step_more patterns size (length values) place (row ++ onward) v (ap (value_in patterns) front ∙ value_at patterns t v below) below
      ∙ ap (λ (w : List ℕ). prefixed (v ∷ []) (characters patterns size (length values) (suc place) w)) back
      ∙ ap (prefixed (v ∷ [])) (characters_of_drawn t values (below_rest _ v values within) (suc place) rest)
