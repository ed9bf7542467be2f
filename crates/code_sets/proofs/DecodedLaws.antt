-- A message is what the reader of the start's set reads from nothing on, unless that is empty.
use Prim.Native.Nat.{ℕ, ◌≤◌}
use mathlib.Core.Path.{◌≡◌, refl}
use mathlib.Core.Bool.{Bool, true, false, ◌&&◌}
use mathlib.Core.List.{List, []}
use native.Mathlib.Omega.{arith}
use lib.ListN.{length}
use lib.Dec.{leb}
use borrow.Author.Tests.{le-leb, lt-leb}
use Rattle.refusal.specs.declared.Refusal.{Refusal}
use Rattle.refusal.specs.declared.Refusal.TheVariants.{Sequence}
use Rattle.refusal.specs.Outcome.{Outcome, made, refused, ◌>>=◌, ◌>>◌, must}
use Rattle.code_sets.specs.Reading.{in_set, spells, start_set, decoded}
use Rattle.code_sets.specs.Readers.{read_on}

-- a text that is not empty
abbrev some : List ℕ → Outcome (List ℕ)
some text = must (leb 1 (length text)) Sequence >> made text

-- two tests at once, or one after the other
both_tests : (a b : Bool) (text : List ℕ) → (must (a && b) Sequence >> made text) ≡ ((must b Sequence >> made text) >>= (λ (t : List ℕ). must a Sequence >> made t))
both_tests true true text = refl
both_tests true false text = refl
both_tests false true text = refl
both_tests false false text = refl

decoded_as_read : (start : ℕ) (values : List ℕ) → decoded start values ≡ (read_on [] (in_set (start_set start)) values >>= some)
unfolding decoded read_on
decoded_as_read start values = go (spells (in_set (start_set start)) values)
  where
    test : (text : List ℕ) (b : Bool) → (must (leb 1 (length text) && b) Sequence >> made text) ≡ ((must b Sequence >> made text) >>= some)
    test text true = both_tests (leb 1 (length text)) true text
    test text false = both_tests (leb 1 (length text)) false text

    go : (o : Outcome (List ℕ)) → (o >>= (λ (t : List ℕ). must (leb 1 (length t) && leb (length t) 48) Sequence >> made t)) ≡ ((o >>= (λ (t : List ℕ). must (leb (length t) 48) Sequence >> made t)) >>= some)
    go (made text) = test text (leb (length text) 48)
    go (refused f) = refl

module _ (start : ℕ) (values : List ℕ) where
  abbrev read : Outcome (List ℕ)
  read = read_on [] (in_set (start_set start)) values

  pub decoded_refused : (f : Refusal) → read ≡ refused f → decoded start values ≡ refused f
  decoded_refused f e = rw (decoded_as_read start values, e)

  pub decoded_empty : (text : List ℕ) → read ≡ made text → length text ≡ 0 → decoded start values ≡ refused Sequence
  decoded_empty text e h = rw (decoded_as_read start values, e) (rw (lt-leb 1 (length text) (omega arith)))

  pub decoded_made : (text : List ℕ) → read ≡ made text → 1 ≤ length text → decoded start values ≡ made text
  decoded_made text e h = rw (decoded_as_read start values, e) (rw (le-leb 1 (length text) h))
