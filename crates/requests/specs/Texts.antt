-- What the desk says of its words, in one line; and of a line that is no request: which argument is missing or wrong, and what it must be.
use Rattle.std.specs.Prelude.{ℕ, List, [], ◌∷◌, ◌++◌}
use Rattle.laws.specs.Text.{as_bytes}
use Rattle.requests.specs.declared.Argument.{Argument}
use Rattle.requests.specs.declared.Argument.TheVariants.{Places, Call, Digits, Number, Message, Widths, Identifier, Data}
use Rattle.requests.specs.declared.Fault.{Fault}
use Rattle.requests.specs.declared.Fault.TheVariants.{Empty, NoSuchCall, Missing, Malformed}
use Rattle.requests.specs.Words.{Row, calls}

abbrev pub name_of : Argument → List ℕ
name_of Places = as_bytes "N"
name_of Call = as_bytes "CALL"
name_of Digits = as_bytes "DIGITS"
name_of Number = as_bytes "NUMBER"
name_of Message = as_bytes "MESSAGE"
name_of Widths = as_bytes "WIDTHS"
name_of Identifier = as_bytes "ID"
name_of Data = as_bytes "DATA"

abbrev pub must_be : Argument → List ℕ
must_be Places = as_bytes "a number from 0 to 700"
must_be Call = as_bytes "one of those that help names, after a space"
must_be Digits = as_bytes "1 to 17 digits, after a space"
must_be Number = as_bytes "digits with the check digit, after a space"
must_be Message = as_bytes "element strings, ^ for a separator, after a space"
must_be Widths = as_bytes "digits, or numbers from 0 to 255 with one space between two"
must_be Identifier = as_bytes "a decimal number, after a space"
must_be Data = as_bytes "the data of an element string, after a space"

abbrev pub named : List Argument → List ℕ
named [] = []
named (argument ∷ arguments) = (32 ∷ name_of argument) ++ named arguments

-- every word with its arguments, a comma and a space after each
abbrev pub usages : List Row → List ℕ
usages [] = []
usages (row ∷ rows) = row.word ++ named (row.first ∷ row.others) ++ as_bytes ", " ++ usages rows

unfoldable pub help_line : List ℕ
help_line = usages calls ++ as_bytes "room N CALL, help" ++ (10 ∷ [])

unfoldable pub described : Argument → List ℕ
described argument = name_of argument ++ as_bytes ": " ++ must_be argument ++ (10 ∷ [])

unfoldable pub fault_line : Fault → List ℕ
fault_line Empty = as_bytes "error: no such call" ++ (10 ∷ [])
fault_line NoSuchCall = as_bytes "error: no such call; there are " ++ help_line
fault_line (Missing argument) = as_bytes "error: missing " ++ described argument
fault_line (Malformed argument) = as_bytes "error: wrong " ++ described argument
