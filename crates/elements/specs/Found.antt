-- What the call answers that looks for one element string.
use Rattle.std.specs.Prelude.{ℕ, cond, List, [], ◌∷◌, eqb}
use Rattle.refusal.specs.declared.Refusal.TheVariants.{Absent}
use Rattle.refusal.specs.Outcome.{Outcome, made, refused}
use Rattle.elements.specs.declared.Element.{Element}

-- the string of an identifier, or else the last string
unfoldable pub sought : ℕ → List Element → Outcome Element
sought identifier [] = refused Absent
sought identifier (string ∷ []) = made string
sought identifier (string ∷ next ∷ strings) =
    cond (eqb string.identifier identifier) (made string) (sought identifier (next ∷ strings))
