-- The listed identifiers: those that have a kind. No listed one begins with another's digits, which one test computes, so the one that
-- some bytes begin with is the only one.
use Rattle.std.specs.Prelude.{Some}
use Prim.Native.Nat.{ℕ}
use mathlib.Core.Path.{◌≡◌, refl, sym, ap, ◌∙◌, subst}
use mathlib.Core.Bool.{Bool, true, false, cond, not, ◌&&◌, ◌||◌, or-true}
use mathlib.Core.List.{List, [], ◌∷◌, ◌++◌}
use native.Mathlib.Omega.{arith}
use lib.ListN.{length, take, drop, take-append-drop}
use lib.Seq.{take-append_seam}
use lib.Dec.{eqb}
use borrow.Author.Tests.{eqb-true, eq-eqb}
use Rattle.laws.proofs.Booleans.{both_hold}
use Rattle.patterns.specs.Patterns.{same}
use Rattle.patterns.proofs.PatternLaws.{same_true, same_refl}
use Rattle.identifiers.specs.declared.Kind.{Kind}
use Rattle.laws.specs.Among.{among}
use Rattle.identifiers.specs.Identifiers.{measures, table, kind_in, kind_of, spelled, first_of, identifiers_of, listed, identifier_in}
use Rattle.laws.proofs.AmongLaws.{among_of_nil, among_more, among_append, all, all_among}

-- a kind is that of a row whose identifiers have the one
kind_among : (rows : List (List ℕ × Kind)) (x : ℕ) (kind : Kind) → kind_in rows x ≡ Some kind → among (identifiers_of rows) x ≡ true
unfolding kind_in identifiers_of
kind_among [] x kind e = absurd (let z : ◌≡◌ {A = ℕ} 0 1 = cc in omega arith)
kind_among (row ∷ rows) x kind e = among_append row.0 (identifiers_of rows) x ∙ go (among row.0 x) e (kind_among rows x kind)
  where
    go : (b : Bool) → cond b (Some row.1) (kind_in rows x) ≡ Some kind → (kind_in rows x ≡ Some kind → among (identifiers_of rows) x ≡ true) → (b || among (identifiers_of rows) x) ≡ true
    go true e later = refl
    go false e later = later e

pub listed_if_kind : (x : ℕ) (kind : Kind) → kind_of x ≡ Some kind → among listed x ≡ true
unfolding kind_of listed
listed_if_kind x kind e = kind_among table x kind e

-- what a test of every row of the table, computed, says of a kind
abbrev pub all_rows : (Kind → Bool) → List (List ℕ × Kind) → Bool
all_rows test [] = true
all_rows test (row ∷ rows) = test row.1 && all_rows test rows

pub kind_passes : (test : Kind → Bool) (rows : List (List ℕ × Kind)) → all_rows test rows ≡ true → (x : ℕ) (kind : Kind) → kind_in rows x ≡ Some kind → test kind ≡ true
unfolding kind_in
kind_passes test [] t x kind e = absurd (let z : ◌≡◌ {A = ℕ} 0 1 = cc in omega arith)
kind_passes test (row ∷ rows) t x kind e = go (among row.0 x) e (kind_passes test rows both.1 x kind)
  where
    both : (test row.1 ≡ true) × (all_rows test rows ≡ true)
    both = both_hold (test row.1) (all_rows test rows) t

    go : (b : Bool) → cond b (Some row.1) (kind_in rows x) ≡ Some kind → (kind_in rows x ≡ Some kind → test kind ≡ true) → test kind ≡ true
    go true e later = let own : row.1 ≡ kind = cc in rw own at both.0
    go false e later = later e

-- two lists that differ before either ends
abbrev pub apart : List ℕ → List ℕ → Bool
apart [] ys = false
apart (x ∷ xs) [] = false
apart (x ∷ xs) (y ∷ ys) = not (eqb x y) || apart xs ys

apart_differ : (xs ys rest : List ℕ) → apart xs ys ≡ true → same xs (take (length xs) (ys ++ rest)) ≡ false
unfolding same
apart_differ [] ys rest e = absurd (let z : ◌≡◌ {A = ℕ} 0 1 = cc in omega arith)
apart_differ (x ∷ xs) [] rest e = absurd (let z : ◌≡◌ {A = ℕ} 0 1 = cc in omega arith)
apart_differ (x ∷ xs) (y ∷ ys) rest e = go (eqb x y) e (apart_differ xs ys rest)
  where
    go : (b : Bool) → (not b || apart xs ys) ≡ true → (apart xs ys ≡ true → same xs (take (length xs) (ys ++ rest)) ≡ false) → (b && same xs (take (length xs) (ys ++ rest))) ≡ false
    go true e later = later e
    go false e later = refl

-- of the identifiers, only the one that bytes begin with is found
abbrev distinct_from : ℕ → ℕ → Bool
distinct_from x y = eqb y x || apart (spelled y) (spelled x)

first_own : (xs : List ℕ) (x : ℕ) (rest : List ℕ) → all (distinct_from x) xs ≡ true → among xs x ≡ true → first_of xs (spelled x ++ rest) ≡ Some x
unfolding first_of
first_own [] x rest t e = absurd (let None : among [] x ≡ false = among_of_nil x in let z : ◌≡◌ {A = ℕ} 0 1 = cc in omega arith)
first_own (y ∷ ys) x rest t e = go (eqb y x) refl both.0 (rw (among_more y ys x) at e) (first_own ys x rest both.1)
  where
    both : (distinct_from x y ≡ true) × (all (distinct_from x) ys ≡ true)
    both = both_hold (distinct_from x y) (all (distinct_from x) ys) t

    go : (b : Bool) → eqb y x ≡ b → (b || apart (spelled y) (spelled x)) ≡ true → (b || among ys x) ≡ true → (among ys x ≡ true → first_of ys (spelled x ++ rest) ≡ Some x) → first_of (y ∷ ys) (spelled x ++ rest) ≡ Some x
    go true p d e later = rw (eqb-true y x p, take-append_seam (spelled x) rest, same_refl (spelled x))
    go false p d e later = rw (apart_differ (spelled y) (spelled x) rest d) (later e)

all_distinct : all (λ (x : ℕ). all (distinct_from x) listed) listed ≡ true
unfolding listed identifiers_of table measures spelled
all_distinct = refl

pub found_listed : (x : ℕ) (rest : List ℕ) → among listed x ≡ true → identifier_in (spelled x ++ rest) ≡ Some x
unfolding identifier_in
found_listed x rest e = first_own listed x rest (all_among (λ (y : ℕ). all (distinct_from y) listed) listed all_distinct x e) e

first_found : (xs bytes : List ℕ) (x : ℕ) → first_of xs bytes ≡ Some x → (among xs x ≡ true) × (spelled x ≡ take (length (spelled x)) bytes)
unfolding first_of
first_found [] bytes x e = absurd (let z : ◌≡◌ {A = ℕ} 0 1 = cc in omega arith)
first_found (y ∷ ys) bytes x e = go (same (spelled y) (take (length (spelled y)) bytes)) refl e (first_found ys bytes x)
  where
    go : (b : Bool) → same (spelled y) (take (length (spelled y)) bytes) ≡ b → cond b (Some y) (first_of ys bytes) ≡ Some x → (first_of ys bytes ≡ Some x → (among ys x ≡ true) × (spelled x ≡ take (length (spelled x)) bytes)) → (among (y ∷ ys) x ≡ true) × (spelled x ≡ take (length (spelled x)) bytes)
    go true p e more =
        let here : y ≡ x = cc in
        (rw (among_more y ys x, eq-eqb y x here), subst (λ (z : ℕ). spelled z ≡ take (length (spelled z)) bytes) here (same_true _ _ p))
    go false p e more =
        let later = more e in
        (rw (among_more y ys x, later.0) (or-true (eqb y x)), later.1)

pub listed_found : (bytes : List ℕ) (x : ℕ) → identifier_in bytes ≡ Some x → (among listed x ≡ true) × (bytes ≡ spelled x ++ drop (length (spelled x)) bytes)
unfolding identifier_in
listed_found bytes x e =
    let found = first_found listed bytes x e in
    (found.0, sym (take-append-drop (length (spelled x)) bytes) ∙ ap (λ (front : List ℕ). front ++ drop (length (spelled x)) bytes) (sym found.1))
