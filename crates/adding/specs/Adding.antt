-- Document 01: adding "tests that length (1 if over 48 or over the buffer's own), the old message (2, 9, 10, 11), then the new identifier (9,
-- place = old length), data (10) and repetition (11) likewise, a result over 48 (8), room (12). It writes the separator where one is
-- needed; the old bytes stay, and the count is the new length." Length 0 is a fresh message, in which nothing is tested.
use Rattle.std.specs.Prelude.{ℕ, ◌<◌, ◌≡◌, false, not, ◌&&◌, List, [], ◌∷◌, ◌++◌, map, length, take, drop, leb}
use Rattle.refusal.specs.declared.Refusal.TheVariants.{Count, Identifier, Data, Repeated, Sequence}
use Rattle.refusal.specs.Outcome.{Outcome, made, ◌>>=◌, ◌>>◌, must}
use Rattle.refusal.specs.Fills.{laid, laying}
use Rattle.elements.specs.declared.Element.{Element}
use Rattle.laws.specs.Among.{among}
use Rattle.identifiers.specs.Identifiers.{kind_of, spelled}
use Rattle.identifiers.specs.Data.{right_data}
use Rattle.elements.specs.Strings.{given, tested}
use Rattle.elements.specs.Messages.{ElementString, used_in, Right, joined, IsMessage, closing}

-- the element strings of the message so far, which may be none
abbrev pub sofar : List ℕ → Outcome (List Element)
sofar [] = made []
sofar (byte ∷ bytes) = tested (byte ∷ bytes)

-- what stands between the message so far and its next element string
abbrev pub closed : List Element → List ℕ
closed [] = []
closed (string ∷ []) = closing string.identifier
closed (string ∷ next ∷ strings) = closed (next ∷ strings)

-- the same where none of the strings has the new identifier, in a message of so many bytes
unfoldable pub unused_in : List Element → ℕ → ℕ → Outcome (List ℕ)
unused_in strings identifier count = do
  must (not (among (map (λ s. s.identifier) strings) identifier)) (Repeated count)
  made (closed strings)

-- what stands before a new element string, where it may be added: every test but those of the buffer
unfoldable pub judged : List ℕ → ℕ → List ℕ → Outcome (List ℕ)
judged old identifier content = do
  strings ← sofar old
  kind ← given (kind_of identifier) (Identifier (length old))
  must (right_data kind content) (Data (length old))
  between ← unused_in strings identifier (length old)
  must (leb (length (old ++ between ++ spelled identifier ++ content)) 48) Sequence
  made between

-- the message with the new string
unfoldable pub added : List ℕ → ℕ → List ℕ → Outcome (List ℕ)
added old identifier content = do
  between ← judged old identifier content
  made (old ++ between ++ spelled identifier ++ content)

-- the rule of the call
unfoldable pub adds : List ℕ → ℕ → ℕ → List ℕ → Outcome (List ℕ)
adds buffer count identifier content = do
  must (leb count 48 && leb count (length buffer)) Count
  message ← added (take count buffer) identifier content
  laying message (length buffer)

-- a buffer, and how many bytes of it are the message
pub record Built : Type 0 where
  pub buffer : List ℕ
  pub count : ℕ

-- a message at the front of a buffer whose rest is as it was
abbrev pub built_in : List ℕ → List ℕ → Built
built_in buffer message = record { buffer = message ++ drop (length message) buffer; count = length message }

-- strings added one by one in a lent buffer: each finds what those before it laid there, and is handed their count
unfoldable pub adds_all : List ℕ → ℕ → List ElementString → Outcome Built
adds_all buffer count [] = made (record { buffer = buffer; count = count })
adds_all buffer count (string ∷ strings) = do
  message ← adds buffer count string.identifier string.content
  adds_all (laid (made message) buffer) (length message) strings

-- the message so far as a relation: a fresh one has no strings; any other is a message of its strings
pub data SoFar : List ℕ → List ElementString → Type 0 where
  fresh : SoFar [] []
  begun : {old : List ℕ} {strings : List ElementString} → IsMessage old strings → SoFar old strings

-- what is known where only the result is wrong: with the new string it has over 48 bytes
pub record TooLong (old : List ℕ) (string : ElementString) : Type 0 where
  pub strings : List ElementString
  pub so_far : SoFar old strings
  pub right : Right string
  pub new : among (used_in strings) string.identifier ≡ false
  pub long : 48 < length (joined (strings ++ (string ∷ [])))
