-- A line is a call: its word, one space, and its arguments, single spaces between them; the last one is the rest of the line. Before it may
-- stand `room N `, with N from 0 to 700, which has the call lent exactly N places.
use Rattle.std.specs.Prelude.{ℕ, ◌+◌, ◌≤◌, min, cond, List, length, take, drop, eqb, Option, Some, None, Result, Ok, Err, unwrap_or}
use Rattle.laws.specs.First.{first_not}
use Rattle.laws.specs.Text.{as_bytes}
use Rattle.lines.specs.Cut.{other_than}
use Rattle.patterns.specs.Patterns.{same}
use Rattle.text.specs.Numeral.{is_numeral, number_from, number_in}
use Rattle.requests.specs.declared.Argument.{Argument}
use Rattle.requests.specs.declared.Argument.TheVariants.{Places, Call as ACall, Identifier as AnIdentifier}
use Rattle.requests.specs.declared.Fault.TheVariants.{Empty, NoSuchCall, Missing, Malformed}
use Rattle.requests.specs.declared.Fault.{Fault}
use Rattle.requests.specs.declared.words.Named.{Named}
use Rattle.requests.specs.declared.Request.{Request}
use Rattle.requests.specs.declared.Request.TheVariants.{Call, Help}
use Rattle.requests.specs.Words.{calls, named_in}

-- the length of the word that begins at a place, and the word
abbrev pub size_at : List ℕ → ℕ → ℕ
size_at line from = first_not (other_than 32) (drop from line)

abbrev pub word_at : List ℕ → ℕ → List ℕ
word_at line from = take (size_at line from) (drop from line)

-- what stands where a further argument must follow
abbrev pub follows : {A : Type 0} → List ℕ → ℕ → A → (ℕ → A) → A
follows line from missing go = cond (eqb (from + size_at line from) (length line)) missing (go (from + size_at line from + 1))

abbrev pub asked : List ℕ → ℕ → Option ℕ → Option Named → Result Request Fault
asked line from room None = Err NoSuchCall
asked line from room (Some named) = follows line from (Err (Missing named.first)) (λ next. Ok (Call named.call (unwrap_or room named.usual) next))

unfoldable pub call_at : List ℕ → ℕ → Option ℕ → Result Request Fault
call_at line from room = cond (same (word_at line from) (as_bytes "help")) (Ok Help) (asked line from room (named_in calls (word_at line from)))

abbrev pub roomed : List ℕ → ℕ → Option ℕ → Result Request Fault
roomed line from None = Err (Malformed Places)
roomed line from (Some places) = follows line from (Err (Missing ACall)) (λ next. call_at line next (Some places))

unfoldable pub in_room : List ℕ → ℕ → Result Request Fault
in_room line from = roomed line from (number_in (word_at line from) 700)

unfoldable pub request_of : List ℕ → Result Request Fault
request_of line =
    cond (eqb (length line) 0) (Err Empty)
    (cond (same (word_at line 0) (as_bytes "room")) (follows line 0 (Err (Missing Places)) (λ next. in_room line next))
    (call_at line 0 None))

-- an identifier, a decimal number, where another argument must follow it
unfoldable pub leading_of : List ℕ → Argument → Result (ℕ × ℕ) Fault
leading_of typed next =
    cond (is_numeral (word_at typed 0)) (follows typed 0 (Err (Missing next)) (λ from. Ok ((number_from 0 (word_at typed 0)), from)))
    (Err (Malformed AnIdentifier))

-- no identifier has five digits, so 10000 stands for all the others
abbrev pub capped : Result (ℕ × ℕ) Fault → Result (ℕ × ℕ) Fault
capped (Ok (identifier, from)) = Ok (min identifier 10000, from)
capped (Err fault) = Err fault

abbrev pub Within : Result Request Fault → ℕ → Type 0
Within (Ok (Call call places from)) size = (places ≤ 700) × (from ≤ size)
Within (Ok Help) size = Unit
Within (Err fault) size = Unit

abbrev pub LeadsWithin : Result (ℕ × ℕ) Fault → ℕ → Type 0
LeadsWithin (Ok (identifier, from)) size = from ≤ size
LeadsWithin (Err fault) size = Unit
