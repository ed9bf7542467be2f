-- Theorem 2 of the design: a list is read as a message exactly when it is a right symbol of it, since the rule of each of the three stages,
-- the scan, the sets and the element strings, agrees with its relation; so a list has one message. And theorem 4 for symbols.
use Prim.Native.Nat.{ℕ, ◌+◌, ◌*◌, ◌≤◌}
use mathlib.Core.Path.{◌≡◌, sym, ap, ◌∙◌, subst}
use mathlib.Core.List.{List, ◌∷◌, map}
use mathlib.Core.Logic.{◌↔◌}
use native.Mathlib.Omega.{arith}
use lib.ListN.{length}
use Rattle.laws.proofs.BelowLaws.{below_more}
use Rattle.refusal.specs.Outcome.{made}
use Rattle.refusal.specs.Fills.{laying}
use Rattle.refusal.proofs.OutcomeLaws.{made_same, bind_made}
use Rattle.refusal.proofs.FillsLaws.{laying_made, made_of_laying}
use Rattle.elements.specs.declared.Element.{Element}
use Rattle.elements.specs.Strings.{parsed, tested}
use Rattle.elements.specs.Messages.{IsMessage, string_of}
use Rattle.elements.proofs.FromRule.{message_of_parsed, tested_made}
use Rattle.elements.proofs.Theorems.{accepted_of_strings, one_splitting}
use Rattle.code_sets.specs.Reading.{decoded}
use Rattle.code_sets.proofs.Theorems.{decoded_as_spelled}
use Rattle.gs1_128.specs.Scanning.{scanned}
use Rattle.gs1_128.specs.Rules.{message_from, message_in, reads}
use Rattle.gs1_128.specs.Right.{IsSymbol}
use Rattle.gs1_128.proofs.SymbolLaws.{length_of_symbol}
use Rattle.gs1_128.proofs.ReadingLaws.{IsDrawn, scanned_as_drawn}

-- what is read is a right symbol
pub symbol_of_read : (widths message : List ℕ) → message_in widths ≡ made message → IsSymbol widths message
unfolding message_in message_from
symbol_of_read widths message o =
    let a = bind_made (scanned widths) _ message o in
    let symbol = a.0 in
    let d = (scanned_as_drawn widths symbol).0 a.1 in
    let b = bind_made (decoded symbol.start symbol.values) _ message a.2 in
    let s = (decoded_as_spelled symbol.start symbol.values b.0).1 b.1 in
    let c = bind_made (parsed b.0) _ message b.2 in
    subst (IsSymbol widths) (made_same b.0 message c.2)
    (record {
      start = symbol.start;
      values = symbol.values;
      strings = map (string_of b.0) c.0;
      least_start = d.least_start;
      most_start = d.most_start;
      least = d.least;
      most = d.most;
      allowed = d.allowed;
      spelled = s.0;
      right = message_of_parsed b.0 c.0 s.1 s.2 c.1;
      drawn = d.drawn;
    })

-- a right symbol is drawn from its start and its values
pub symbol_drawn : {widths message : List ℕ} (s : IsSymbol widths message) → IsDrawn widths (record { start = s.start; values = s.values })
symbol_drawn s = record { least_start = s.least_start; most_start = s.most_start; least = s.least; most = s.most; allowed = s.allowed; drawn = s.drawn }

-- every right symbol is read
read_of_symbol : (widths message : List ℕ) → IsSymbol widths message → message_in widths ≡ made message
unfolding message_in message_from
read_of_symbol widths message s =
    let m = s.right in
    let t = accepted_of_strings message s.strings m in
    rw ((scanned_as_drawn widths (record { start = s.start; values = s.values })).1 (symbol_drawn s), (decoded_as_spelled s.start s.values message).0 (s.spelled, m.least, m.most), (tested_made message t.0 t.1).strings)

-- Theorem 2, both ways.
pub read_as_symbol : (widths message : List ℕ) → (message_in widths ≡ made message) ↔ IsSymbol widths message
read_as_symbol widths message = (symbol_of_read widths message, read_of_symbol widths message)

-- the same of the call: it reads every right symbol for whose message there is room, and nothing else
pub call_reads_symbol : (widths message : List ℕ) (room : ℕ) → (reads widths room ≡ made message) ↔ (IsSymbol widths message × (length message ≤ room))
unfolding reads
call_reads_symbol widths message room = (there, back)
  where
    there : reads widths room ≡ made message → IsSymbol widths message × (length message ≤ room)
    there o =
        let a = bind_made (message_in widths) (λ (text : List ℕ). laying text room) message o in
        let l = made_of_laying a.0 message room a.2 in
        subst (λ (text : List ℕ). IsSymbol widths text × (length text ≤ room)) l.1 (symbol_of_read widths a.0 a.1, l.0)

    back : IsSymbol widths message × (length message ≤ room) → reads widths room ≡ made message
    back s = rw (read_of_symbol widths message s.0) (laying_made message room s.1)

-- no list is a symbol of two messages; a message has many symbols
pub one_message : {widths message message' : List ℕ} → IsSymbol widths message → IsSymbol widths message' → message ≡ message'
one_message {widths} {message} {message'} s s' = made_same message message' (sym (read_of_symbol widths message s) ∙ read_of_symbol widths message' s')

-- "6n + 19 widths", n one more than the values by the first FNC1
pub length_of_right : {widths message : List ℕ} (s : IsSymbol widths message) → length widths ≡ 6 * (length s.values + 1) + 19
length_of_right s =
    ap length s.drawn
    ∙ length_of_symbol s.start (102 ∷ s.values) s.least_start s.most_start (below_more 103 102 s.values (omega arith) s.allowed)
    ∙ omega arith

-- Theorem 4 for symbols: the message of an accepted symbol splits into exactly the symbol's strings ..
pub split_of_symbol : {widths message : List ℕ} (s : IsSymbol widths message) → (elements : List Element) × (tested message ≡ made elements) × (map (string_of message) elements ≡ s.strings)
split_of_symbol {message = message} s = accepted_of_strings message s.strings s.right

-- .. which are the only ones that the list has
pub one_contents : {widths message message' : List ℕ} (s : IsSymbol widths message) (s' : IsSymbol widths message') → s.strings ≡ s'.strings
one_contents {message = message} s s' =
    one_splitting message s.strings s'.strings s.right (subst (λ (text : List ℕ). IsMessage text s'.strings) (sym (one_message s s')) s'.right)
