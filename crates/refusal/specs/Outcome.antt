-- Document 01, "Refusal numbers": "An answer is either the reading or the refusal with its place." A rule makes one of the two from
-- its input, line by line; the first line that refuses decides, so the order of a rule's lines is the order of refusals.
use Rattle.std.specs.Prelude.{Bool, true, false}
use Rattle.refusal.specs.declared.Refusal.{Refusal}

infixr 60 ◌>>=◌
infixr 60 ◌>>◌
pub data Outcome (A : Type 0) : Type 0 where
  made : A → Outcome A
  refused : Refusal → Outcome A

abbrev pub ◌>>=◌ : {A B : Type 0} → Outcome A → (A → Outcome B) → Outcome B
◌>>=◌ (made a) rest = rest a
◌>>=◌ (refused f) rest = refused f

abbrev pub ◌>>◌ : {A B : Type 0} → Outcome A → Outcome B → Outcome B
◌>>◌ (made a) rest = rest
◌>>◌ (refused f) rest = refused f

-- the line of a rule that refuses unless its test holds
abbrev pub must : Bool → Refusal → Outcome Unit
must true f = made tt
must false f = refused f
