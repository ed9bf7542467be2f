-- An identifier's row by its place in the table: what is computed once for each list of identifiers holds of each number that is among
-- them. A number that lies between the listed ones has no row.
use Rattle.std.specs.Prelude.{Some, None, Option}
use Prim.Native.Nat.{ℕ, zero, suc, ◌≤◌, ◌<◌}
use mathlib.Core.Path.{◌≡◌, refl, sym, ap, ap₂, ◌∙◌}
use mathlib.Core.Bool.{Bool, true, false, cond, ◌||◌}
use mathlib.Core.List.{List, [], ◌∷◌, ◌++◌}
use native.Mathlib.Omega.{arith}
use lib.Dec.{eqb, leb, ltb}
use borrow.Author.Tests.{eqb-true, le-ltb, lt-leb}
use types.Run.{OneOf}
use Rattle.identifiers.specs.declared.Kind.{Kind}
use Rattle.laws.specs.Among.{among}
use Rattle.identifiers.specs.Identifiers.{measures, table, kind_in, kind_of, listed}
use Rattle.identifiers.specs.Rows.{with_kind, row_of}
use Rattle.laws.proofs.AmongLaws.{among_append, one_among, not_among, all, all_among, not_among_if}
use Rattle.identifiers.proofs.ListedLaws.{listed_if_kind}

-- the place of an identifier's row, and the kind at a place
unfoldable pub place_in_table : List (List ℕ × Kind) → ℕ → ℕ
place_in_table [] x = zero
place_in_table (row ∷ rows) x = cond (among row.0 x) zero (suc (place_in_table rows x))

abbrev pub kind_at : List (List ℕ × Kind) → ℕ → Option Kind
kind_at [] k = None
kind_at (row ∷ rows) zero = Some row.1
kind_at (row ∷ rows) (suc k) = kind_at rows k

kind_by_place : (rows : List (List ℕ × Kind)) (x : ℕ) → kind_in rows x ≡ kind_at rows (place_in_table rows x)
unfolding kind_in place_in_table
kind_by_place [] x = refl
kind_by_place (row ∷ rows) x = go (among row.0 x) (kind_by_place rows x)
  where
    go : (b : Bool) → kind_in rows x ≡ kind_at rows (place_in_table rows x) → cond b (Some row.1) (kind_in rows x) ≡ kind_at (row ∷ rows) (cond b zero (suc (place_in_table rows x)))
    go true later = refl
    go false later = later

-- in the row at place k, as a test
abbrev pub in_row : ℕ → ℕ → Bool
in_row k x = eqb (place_in_table table x) k

pub row_at_place : (x k : ℕ) (kind : Kind) → in_row k x ≡ true → kind_at table k ≡ Some kind → (result : Kind) → result ≡ kind → Some (x, result) ≡ row_of x
unfolding row_of kind_of
row_at_place x k kind here is result e =
    ap (λ (k : Kind). Some (x, k)) e ∙ sym (ap (with_kind x) (kind_by_place table x ∙ ap (kind_at table) (eqb-true _ k here) ∙ is))

pub row_of_keys : (keys : List ℕ) (k : ℕ) → all (in_row k) keys ≡ true → (x : ℕ) → OneOf keys x → in_row k x ≡ true
row_of_keys keys k t x one = all_among (in_row k) keys t x (one_among keys x one)

-- the identifiers that stand alone, and the measures
abbrev pub others : List ℕ
others = (0 ∷ []) ++ ((20 ∷ []) ++ ((30 ∷ 37 ∷ []) ++ ((10 ∷ 21 ∷ []) ++ ((90 ∷ 250 ∷ 400 ∷ []) ++ measures))))

pub not_others : (x : ℕ) → (OneOf (0 ∷ []) x → ⊥) → (OneOf (20 ∷ []) x → ⊥) → (OneOf (30 ∷ 37 ∷ []) x → ⊥) → (OneOf (10 ∷ 21 ∷ []) x → ⊥) → (OneOf (90 ∷ 250 ∷ 400 ∷ []) x → ⊥) → among measures x ≡ false → among others x ≡ false
not_others x a b c d e m =
    among_append (0 ∷ []) _ x ∙ ap₂ ◌||◌ (not_among (0 ∷ []) x a)
    (among_append (20 ∷ []) _ x ∙ ap₂ ◌||◌ (not_among (20 ∷ []) x b)
    (among_append (30 ∷ 37 ∷ []) _ x ∙ ap₂ ◌||◌ (not_among (30 ∷ 37 ∷ []) x c)
    (among_append (10 ∷ 21 ∷ []) _ x ∙ ap₂ ◌||◌ (not_among (10 ∷ 21 ∷ []) x d)
    (among_append (90 ∷ 250 ∷ 400 ∷ []) measures x ∙ ap₂ ◌||◌ (not_among (90 ∷ 250 ∷ 400 ∷ []) x e) m))))

-- between a and b only others are listed; and from a on
abbrev pub outside : ℕ → ℕ → ℕ → Bool
outside a b y = (ltb y a || leb b y) || among others y

no_kind : (x : ℕ) → among listed x ≡ false → kind_of x ≡ None
no_kind x e = go (kind_of x) refl
  where
    go : (o : Option Kind) → kind_of x ≡ o → o ≡ None
    go None p = refl
    go (Some kind) p = absurd (let l = listed_if_kind x kind p in let z : ◌≡◌ {A = ℕ} 0 1 = cc in omega arith)

pub row_of_gap : (a b x : ℕ) → all (outside a b) listed ≡ true → among others x ≡ false → a ≤ x → x < b → None ≡ row_of x
unfolding row_of
row_of_gap a b x t other low high =
    sym (ap (with_kind x) (no_kind x (not_among_if (outside a b) listed t x (rw (le-ltb x a low, lt-leb b x high, other)))))

pub row_from : (a x : ℕ) → all (λ (y : ℕ). ltb y a || among others y) listed ≡ true → among others x ≡ false → a ≤ x → None ≡ row_of x
unfolding row_of
row_from a x t other low =
    sym (ap (with_kind x) (no_kind x (not_among_if (λ (y : ℕ). ltb y a || among others y) listed t x (rw (le-ltb x a low, other)))))

-- what a row says of the kind
pub kind_of_row : (x y : ℕ) (kind : Kind) → row_of x ≡ Some (y, kind) → (x ≡ y) × (kind_of x ≡ Some kind)
unfolding row_of
kind_of_row x y kind e = go (kind_of x) e
  where
    go : (o : Option Kind) → with_kind x o ≡ Some (y, kind) → (x ≡ y) × (o ≡ Some kind)
    go None e = absurd (let z : ◌≡◌ {A = ℕ} 0 1 = cc in omega arith)
    go (Some k) e = let same : ◌≡◌ {A = ℕ × Kind} (x, k) (y, kind) = cc in (ap (λ (row : ℕ × Kind). row.0) same, ap (λ (row : ℕ × Kind). Some row.1) same)

pub no_kind_of_row : (x : ℕ) → row_of x ≡ None → kind_of x ≡ None
unfolding row_of
no_kind_of_row x e = go (kind_of x) e
  where
    go : (o : Option Kind) → with_kind x o ≡ None → o ≡ None
    go None e = refl
    go (Some k) e = absurd (let z : ◌≡◌ {A = ℕ} 0 1 = cc in omega arith)
