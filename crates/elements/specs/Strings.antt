-- Document 01, "Element strings": one element string after the other. "The first four kinds, 20 and 310y to 316y have predefined length:
-- exactly that many bytes, and the next identifier follows at once. The others run to the next separator or the end." The first bad
-- element string decides among 9, 10 and 11, and of several faults of one string the lowest number.
use Rattle.std.specs.Prelude.{ℕ, zero, suc, ◌+◌, cond, not, ◌&&◌, List, [], ◌∷◌, ◌++◌, length, take, drop, leb, eqb, Option, Some, None}
use Rattle.laws.specs.First.{first_not}
use Rattle.refusal.specs.declared.Refusal.{Refusal}
use Rattle.refusal.specs.declared.Refusal.TheVariants.{Count, Character, Identifier, Data, Repeated}
use Rattle.refusal.specs.Outcome.{Outcome, made, refused, ◌>>=◌, ◌>>◌, must}
use Rattle.elements.specs.declared.Element.{Element}
use Rattle.identifiers.specs.declared.Kind.{Kind}
use Rattle.laws.specs.Among.{among}
use Rattle.character_set_82.specs.Characters.{to_separator, is_message_byte}
use Rattle.identifiers.specs.Identifiers.{kind_of, spelled, identifier_in}
use Rattle.identifiers.specs.Data.{right_data}

abbrev pub given : {A : Type 0} → Option A → Refusal → Outcome A
given (Some a) f = made a
given None f = refused f

-- the data of a kind of element string, at the front of the bytes after its identifier
unfoldable pub data_of : Kind → List ℕ → List ℕ
data_of kind bytes = take (cond kind.predefined kind.most (to_separator bytes)) bytes

-- where the string after one whose data ends at `end` must begin: "the next identifier follows at once", or past the separator
unfoldable pub next_after : Kind → ℕ → ℕ
next_after kind end = cond kind.predefined end (end + 1)

-- the element string of a kind whose data begins at `begin`; where the next one must begin, unless this is the last
unfoldable pub element_of : List ℕ → ℕ → Kind → ℕ → Element
element_of message identifier kind begin =
    let count = length (data_of kind (drop begin message)) in
    record {
      identifier = identifier;
      begin = begin;
      length = count;
      next = next_after kind (begin + count);
      last = eqb (begin + count) (length message);
    }

-- the element string that must begin at `place`
unfoldable pub string_at : List ℕ → ℕ → Outcome Element
string_at message place = do
  identifier ← given (identifier_in (drop place message)) (Identifier place)
  kind ← given (kind_of identifier) (Identifier place)
  must (right_data kind (data_of kind (drop (place + length (spelled identifier)) message))) (Data place)
  made (element_of message identifier kind (place + length (spelled identifier)))

-- the element strings from `place` on, after those whose identifiers are `used`; a message of n bytes has fewer than n
unfoldable pub strings_from : ℕ → List ℕ → ℕ → List ℕ → Outcome (List Element)
strings_from zero message place used = refused (Identifier place)
strings_from (suc most) message place used = do
  string ← string_at message place
  must (not (among used string.identifier)) (Repeated place)
  rest ← cond string.last (made []) (strings_from most message string.next (used ++ (string.identifier ∷ [])))
  made (string ∷ rest)

unfoldable pub parsed : List ℕ → Outcome (List Element)
parsed message = strings_from (suc (length message)) message 0 []

-- the rule of the test of a whole message
unfoldable pub tested : List ℕ → Outcome (List Element)
tested message = do
  must (leb 1 (length message) && leb (length message) 48) Count
  must (eqb (first_not is_message_byte message) (length message)) (Character (first_not is_message_byte message))
  parsed message
