-- The first element of a list that fails a test: what document 01's places of refusal 2 and 5 count.
use Rattle.std.specs.Prelude.{ℕ, zero, suc, Bool, cond, List, [], ◌∷◌}

-- its place, or the list's length where every element passes
unfoldable pub first_not : {A : Type 0} → (A → Bool) → List A → ℕ
first_not passes [] = zero
first_not passes (x ∷ xs) = cond (passes x) (suc (first_not passes xs)) zero
