-- A message comes back from its strings, added one by one in a fresh buffer, whether splitting gave them or reading a symbol: each of the
-- two gives exactly the strings of the message, and adding these lays it at the buffer's front and leaves the rest of the buffer as it was.
use Prim.Native.Nat.{ℕ, ◌≤◌}
use mathlib.Core.Path.{◌≡◌}
use mathlib.Core.List.{List, map}
use lib.ListN.{length}
use Rattle.refusal.specs.Outcome.{made}
use Rattle.elements.specs.declared.Element.{Element}
use Rattle.elements.specs.Strings.{tested}
use Rattle.elements.specs.Messages.{IsMessage, string_of}
use Rattle.elements.proofs.Theorems.{strings_of_accepted}
use Rattle.splitting.specs.declared.Record.{Record}
use Rattle.splitting.specs.Splitting.{splits, string_in}
use Rattle.splitting.proofs.SplitStrings.{strings_of_split}
use Rattle.adding.specs.Adding.{built_in, adds_all}
use Rattle.adding.proofs.AddedStrings.{rebuilt, rebuilt_from_split}
use Rattle.gs1_128.specs.Rules.{message_in}
use Rattle.gs1_128.specs.Right.{IsSymbol}
use Rattle.gs1_128.proofs.Theorems.{symbol_of_read, split_of_symbol}

-- identifiers and data of the records that splitting makes
pub rebuilt_from_records : (message : List ℕ) (room : ℕ) (records : List Record) (buffer : List ℕ) → splits message room ≡ made records → length message ≤ length buffer → adds_all buffer 0 (map (string_in message) records) ≡ made (built_in buffer message)
rebuilt_from_records message room records buffer e = rebuilt message (map (string_in message) records) buffer (strings_of_split message room records e)

-- the strings of a right symbol
pub rebuilt_symbol : {widths message : List ℕ} (s : IsSymbol widths message) (buffer : List ℕ) → length message ≤ length buffer → adds_all buffer 0 s.strings ≡ made (built_in buffer message)
rebuilt_symbol {message = message} s buffer = rebuilt message s.strings buffer s.right

-- the same from what reading gave, with the strings that the test of the message finds
pub rebuilt_from_read : (widths message buffer : List ℕ) → message_in widths ≡ made message → length message ≤ length buffer → (elements : List Element) × (tested message ≡ made elements) × IsMessage message (map (string_of message) elements) × (adds_all buffer 0 (map (string_of message) elements) ≡ made (built_in buffer message))
rebuilt_from_read widths message buffer o fits =
    let s = symbol_of_read widths message o in
    let t = split_of_symbol s in
    (t.0, t.1, strings_of_accepted message t.0 t.1, rebuilt_from_split message t.0 buffer t.1 fits)
