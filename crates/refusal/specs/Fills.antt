-- Document 01, "Refusal numbers": "Every refusal leaves the lent memory unchanged. Success fills exactly the first n places and no
-- other", and carries the count written. The one shape of the promise of every call that fills a lent list.
use Rattle.std.specs.Prelude.{ℕ, ◌≡◌, List, ◌++◌, length, drop, leb, Result, Ok, Err}
use Rattle.refusal.specs.declared.Refusal.{Refusal}
use Rattle.refusal.specs.declared.Refusal.TheVariants.{Room}
use Rattle.refusal.specs.Outcome.{Outcome, made, refused, ◌>>◌, must}

-- a call whose rule makes a value answers it
abbrev pub answered : {A : Type 0} → Outcome A → Result A Refusal
answered (made a) = Ok a
answered (refused f) = Err f

-- a call whose rule makes a list answers its count
abbrev pub answer_of : {A : Type 0} → Outcome (List A) → Result ℕ Refusal
answer_of (made xs) = Ok (length xs)
answer_of (refused f) = Err f

-- what was lent as `before` then holds the list made at its front; or what it held
abbrev pub laid : {A : Type 0} → Outcome (List A) → List A → List A
laid (made xs) before = xs ++ drop (length xs) before
laid (refused f) before = before

-- a call that was lent `before` answers r and leaves `after`
pub record Fills {A : Type 0} (o : Outcome (List A)) (before : List A) (r : Result ℕ Refusal) (after : List A) : Type 0 where
  pub answer : r ≡ answer_of o
  pub lent : after ≡ laid o before

-- the same for a working list of the call's own: what it holds after a refusal is nobody's concern
pub record FillsOwn {A : Type 0} (o : Outcome (List A)) (before : List A) (r : Result ℕ Refusal) (after : List A) : Type 0 where
  pub answer : r ≡ answer_of o
  pub lent : (xs : List A) → o ≡ made xs → after ≡ xs ++ drop (length xs) before

-- refusal 12: the lent list is too short for what this call needs
abbrev pub laying : {A : Type 0} → List A → ℕ → Outcome (List A)
laying xs room = do
  must (leb (length xs) room) Room
  made xs
