-- Document 01, "Which symbols, which data": a message's bytes are "each from the 82-character GS1 set or byte 29, which stands for an FNC1
-- separator". "In order of value, from 0, the 82 are `!` `"`, then `%` to `/`, `0` to `9`, `:` to `?`, `A` to `Z`, `_`, `a` to `z`."
use Rattle.std.specs.Prelude.{ℕ, Bool, not, ◌||◌, List, [], ◌∷◌, ◌++◌, eqb}
use Rattle.laws.specs.First.{first_not}
use Rattle.laws.specs.Run.{run}
use Rattle.laws.specs.Among.{among}

-- in order of value
unfoldable pub eighty_two : List ℕ
eighty_two = run 33 2 ++ run 37 11 ++ run 48 10 ++ run 58 6 ++ run 65 26 ++ (95 ∷ []) ++ run 97 26

unfoldable pub is_of82 : ℕ → Bool
is_of82 byte = among eighty_two byte

abbrev pub separator : ℕ
separator = 29

unfoldable pub is_message_byte : ℕ → Bool
is_message_byte byte = is_of82 byte || eqb byte separator

-- the place of the first separator
unfoldable pub to_separator : List ℕ → ℕ
to_separator bytes = first_not (λ byte. not (eqb byte separator)) bytes
