-- Document 01: a message's lines have "^ for byte 29". A byte 29 itself is the separator too, and any other byte stands for itself.
use Rattle.std.specs.Prelude.{ℕ, cond, List, map, eqb}

abbrev pub replacing : ℕ → ℕ → ℕ → ℕ
replacing old new byte = cond (eqb byte old) new byte

-- the message that typed bytes stand for
abbrev pub message_of : List ℕ → List ℕ
message_of typed = map (replacing 94 29) typed

-- a message as it is typed
abbrev pub typed_of : List ℕ → List ℕ
typed_of message = map (replacing 29 94) message
