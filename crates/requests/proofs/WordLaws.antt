-- A word is held against one row of the table after the other: a row with that word names its call, and a row with another word leaves it
-- to the rows after it. And no row has more than 700 places.
use Rattle.std.specs.Prelude.{ℕ, suc, ◌+◌, ◌≤◌, ◌<◌, ◌≡◌, Bool, true, false, cond, ◌&&◌, List, [], ◌∷◌, map, length, get_or, drop, Some, None}
use mathlib.Core.Path.{refl}
use native.Mathlib.Omega.{arith}
use denote.Bor.{Bor}
use lib.Dec.{leb}
use native.Mathlib.Numerals.{add-one}
use lib.ListN.{length-map, get_or-map, drop_of_length-le}
use lib.Seq.{drop-cons}
use borrow.Author.Tests.{leb-true}
use Rattle.laws.proofs.Booleans.{both_hold}
use Rattle.patterns.specs.Patterns.{same}
use Rattle.requests.specs.declared.Argument.{Argument}
use Rattle.requests.specs.declared.Word.{Word}
use Rattle.requests.specs.declared.words.Named.{Named}
use Rattle.requests.specs.Words.{Row, calls, named_in, row_of, named_by}

abbrev said_by : Row → List ℕ × Named
said_by row = (row.word, record { first = row.first; usual = row.usual; call = row.call })

pub by_rule : (rows : List Row) (word : List ℕ) → named_by (map said_by rows) word ≡ named_in rows word
unfolding named_by named_in
by_rule [] word = refl
by_rule (row ∷ rows) word = rw (by_rule rows word)

pub none_left : (rows : List (Bor (List ℕ) × Argument × ℕ × Word)) (i : ℕ) (word : List ℕ) → length rows ≤ i → None ≡ named_by (drop i (map row_of rows)) word
unfolding named_by
none_left rows i word h = rw (drop_of_length-le (map row_of rows) {i = i} (rw length-map h))

module _ (rows : List (Bor (List ℕ) × Argument × ℕ × Word)) (i : ℕ) (none : Bor (List ℕ) × Argument × ℕ × Word) (word : List ℕ) where
  row_at : i < length rows → drop i (map row_of rows) ≡ row_of (get_or rows i none) ∷ drop (suc i) (map row_of rows)
  row_at h =
      let within : i < length (map row_of rows) = rw length-map h in
      rw (drop-cons (map row_of rows) i (row_of none) within, get_or-map row_of rows i none)

  pub passed : i < length rows → same word (get_or rows i none).0.now ≡ false → named_by (drop (i + 1) (map row_of rows)) word ≡ named_by (drop i (map row_of rows)) word
  unfolding named_by
  passed h e = rw (add-one, row_at h, e)

  pub found : i < length rows → same word (get_or rows i none).0.now ≡ true → Some (row_of (get_or rows i none)).1 ≡ named_by (drop i (map row_of rows)) word
  unfolding named_by
  found h e = rw (row_at h, e)

-- one test over the table
abbrev fitting : List Row → Bool
fitting [] = true
fitting (row ∷ rows) = leb row.usual 700 && fitting rows

module _ (word : List ℕ) (named : Named) where
  fits : (rows : List Row) → fitting rows ≡ true → Some named ≡ named_in rows word → named.usual ≤ 700
  unfolding named_in
  fits [] e names = absurd (let z : ◌≡◌ {A = ℕ} 0 1 = cc in omega arith)
  fits (row ∷ rows) e names = go (fits rows (both_hold (leb row.usual 700) _ e).1) (same word row.word) names
    where
      go : (Some named ≡ named_in rows word → named.usual ≤ 700) → (b : Bool) → Some named ≡ cond b (Some (said_by row).1) (named_in rows word) → named.usual ≤ 700
      go on true is = let is-usual : named.usual ≡ row.usual = cc in omega (arith, is-usual, leb-true row.usual 700 (both_hold _ (fitting rows) e).0)
      go on false is = on is

  pub usual_fits : Some named ≡ named_in calls word → named.usual ≤ 700
  unfolding calls
  usual_fits names = fits calls refl names
