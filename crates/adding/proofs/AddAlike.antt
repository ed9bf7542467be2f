-- What adding doesn't look at: the buffer past the message so far, and by how much a number is too large for an identifier.
use Rattle.std.specs.Prelude.{None}
use Prim.Native.Nat.{ℕ, ◌≤◌, min}
use mathlib.Core.Path.{◌≡◌, refl, ap, ap₂}
use mathlib.Core.List.{List}
use mathlib.Core.Bool.{◌&&◌}
use native.Mathlib.Decide.{dec_le}
use native.Mathlib.Omega.{arith}
use lib.ListN.{length, take}
use lib.Dec.{leb}
use Rattle.refusal.specs.declared.Refusal.TheVariants.{Count}
use Rattle.refusal.specs.Outcome.{Outcome, made, refused, ◌>>=◌, ◌>>◌, must}
use Rattle.refusal.specs.Fills.{laying}
use Rattle.elements.specs.declared.Element.{Element}
use Rattle.identifiers.specs.Identifiers.{kind_of}
use Rattle.identifiers.proofs.DecisionLaws.{no_kind_of_large}
use Rattle.adding.specs.Adding.{sofar, added, adds}
use Rattle.adding.proofs.AddLaws.{judged_old, judged_unlisted}

-- the message so far and the buffer's length decide
pub adds_by_front : (buffer other : List ℕ) (count identifier : ℕ) (content : List ℕ) → length buffer ≡ length other → take count buffer ≡ take count other → adds buffer count identifier content ≡ adds other count identifier content
unfolding adds
adds_by_front buffer other count identifier content long front =
    ap₂ (λ (room : ℕ) (old : List ℕ). must (leb count 48 && leb count room) Count >> (added old identifier content >>= λ message. laying message room)) long front

-- of two numbers that are no identifiers, each is refused as the other is
added_unlisted : (old : List ℕ) (x y : ℕ) (content : List ℕ) → kind_of x ≡ None → kind_of y ≡ None → added old x content ≡ added old y content
unfolding added
added_unlisted old x y content no-x no-y = go (sofar old) refl
  where
    go : (o : Outcome (List Element)) → sofar old ≡ o → added old x content ≡ added old y content
    go (refused f) e = rw (judged_old old x content f e, judged_old old y content f e)
    go (made strings) e = rw (judged_unlisted old x content strings e no-x, judged_unlisted old y content strings e no-y)

-- none has five digits, so each number from 10000 on stands for all of them
pub adds_capped : (buffer : List ℕ) (count n : ℕ) (content : List ℕ) → adds buffer count (min n 10000) content ≡ adds buffer count n content
unfolding adds
adds_capped buffer count n content = go (dec_le n 10000)
  where
    go : Dec (n ≤ 10000) → adds buffer count (min n 10000) content ≡ adds buffer count n content
    go (yes small) = ap (λ (x : ℕ). adds buffer count x content) (omega arith)
    go (no large) =
        ap (λ (o : Outcome (List ℕ)). must (leb count 48 && leb count (length buffer)) Count >> (o >>= λ message. laying message (length buffer)))
        (added_unlisted (take count buffer) (min n 10000) n content (no_kind_of_large (min n 10000) (omega arith)) (no_kind_of_large n (omega arith)))
