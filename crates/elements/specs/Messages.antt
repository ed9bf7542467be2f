-- Document 01, "Element strings", as a relation: a message is element strings, each right by its row, all identifiers different, joined so
-- that one separator stands between a string of variable length and its successor and nowhere else; 1 to 48 bytes. A blank is no data:
-- it makes its string wrong, and is never left out.
use Rattle.std.specs.Prelude.{ℕ, ◌≤◌, ◌≡◌, true, false, cond, List, [], ◌∷◌, ◌++◌, map, length, take, drop, Option, Some, None}
use Rattle.elements.specs.declared.Element.{Element}
use Rattle.identifiers.specs.declared.Kind.{Kind}
use Rattle.laws.specs.Among.{among}
use Rattle.character_set_82.specs.Characters.{separator}
use Rattle.identifiers.specs.Identifiers.{kind_of, spelled}
use Rattle.identifiers.specs.Data.{right_data}

pub record ElementString : Type 0 where
  pub identifier : ℕ
  pub content : List ℕ

-- right by the row of its identifier
pub record Right (string : ElementString) : Type 0 where
  pub kind : Kind
  pub listed : kind_of string.identifier ≡ Some kind
  pub right : right_data kind string.content ≡ true

pub data AllRight : List ElementString → Type 0 where
  right_none : AllRight []
  right_more : {string : ElementString} {strings : List ElementString} → Right string → AllRight strings → AllRight (string ∷ strings)

abbrev pub used_in : List ElementString → List ℕ
used_in strings = map (λ s. s.identifier) strings

-- no identifier occurs twice
pub data Different : List ElementString → Type 0 where
  different_none : Different []
  different_more : {string : ElementString} {strings : List ElementString} → among (used_in strings) string.identifier ≡ false → Different strings → Different (string ∷ strings)

abbrev pub closing_of : Option Kind → List ℕ
closing_of (Some kind) = cond kind.predefined [] (separator ∷ [])
closing_of None = []

-- what stands after a string that has a successor
unfoldable pub closing : ℕ → List ℕ
closing identifier = closing_of (kind_of identifier)

unfoldable pub joined : List ElementString → List ℕ
joined [] = []
joined (string ∷ []) = spelled string.identifier ++ string.content
joined (string ∷ next ∷ strings) =
    spelled string.identifier ++ string.content ++ closing string.identifier ++ joined (next ∷ strings)

pub record IsMessage (message : List ℕ) (strings : List ElementString) : Type 0 where
  pub least : 1 ≤ length message
  pub most : length message ≤ 48
  pub right : AllRight strings
  pub different : Different strings
  pub whole : message ≡ joined strings

-- the element string that was found at a place of a message
abbrev pub string_of : List ℕ → Element → ElementString
string_of message element = record { identifier = element.identifier; content = take element.length (drop element.begin message) }
