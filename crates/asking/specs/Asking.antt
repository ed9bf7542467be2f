-- Document 01: "Asking for an identifier tests the whole message, then hands back the data as the caller's own bytes of the message, no copy;
-- a refusal hands back an empty part, and only a refusal does." Refusal 13: "identifier asked for isn't in the message".
use Rattle.std.specs.Prelude.{ℕ, cond, List, [], ◌∷◌, take, drop, eqb}
use Rattle.refusal.specs.declared.Refusal.TheVariants.{Absent}
use Rattle.refusal.specs.Outcome.{Outcome, made, refused, ◌>>=◌}
use Rattle.elements.specs.declared.Element.{Element}
use Rattle.elements.specs.Strings.{tested}

-- the element string of an identifier
unfoldable pub named : ℕ → List Element → Outcome Element
named identifier [] = refused Absent
named identifier (string ∷ strings) = cond (eqb string.identifier identifier) (made string) (named identifier strings)

unfoldable pub asked : List ℕ → ℕ → Outcome Element
asked message identifier = do
  strings ← tested message
  named identifier strings

-- the part that is handed back
abbrev pub part_of : List ℕ → Outcome Element → List ℕ
part_of message (made string) = take string.length (drop string.begin message)
part_of message (refused f) = []

-- what the companion call answers: the length of the data
abbrev pub length_of : Outcome Element → Outcome ℕ
length_of (made string) = made string.length
length_of (refused f) = refused f
