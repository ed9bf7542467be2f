-- Theorem 4 of the design, first half: a message is accepted exactly when it is the joining of right element strings, all identifiers
-- different, and then the strings found are exactly these; so the strings of a message are unique.
use Prim.Native.Nat.{ℕ, ◌≤◌}
use mathlib.Core.Path.{◌≡◌, sym, ap, ◌∙◌, subst}
use mathlib.Core.List.{List, [], ◌∷◌, map}
use native.Mathlib.Omega.{arith}
use lib.ListN.{length, length-map}
use Rattle.laws.specs.First.{first_not}
use Rattle.refusal.specs.Outcome.{made}
use Rattle.refusal.proofs.OutcomeLaws.{made_same}
use Rattle.elements.specs.declared.Element.{Element}
use Rattle.character_set_82.specs.Characters.{is_message_byte}
use Rattle.elements.specs.Strings.{tested}
use Rattle.elements.specs.Messages.{ElementString, joined, IsMessage, string_of}
use Rattle.elements.proofs.FromRule.{message_of_parsed, tested_made}
use Rattle.elements.proofs.FromRelation.{parsed_of_message, joined_bytes, tested_if}
use Rattle.elements.proofs.TenStrings.{ten_of_message}

-- what is accepted is a message, and the strings found are its strings
pub strings_of_accepted : (message : List ℕ) (elements : List Element) → tested message ≡ made elements → IsMessage message (map (string_of message) elements)
strings_of_accepted message elements e =
    let a = tested_made message elements e in
    message_of_parsed message elements a.least a.most a.strings

-- every message is accepted, with exactly its strings
pub accepted_of_strings : (message : List ℕ) (strings : List ElementString) → IsMessage message strings → (elements : List Element) × (tested message ≡ made elements) × (map (string_of message) elements ≡ strings)
unfolding joined
accepted_of_strings message [] m = absurd (none m.whole m.least)
  where
    none : message ≡ joined [] → 1 ≤ length message → ⊥
    none e h = omega (arith, ap length e)
accepted_of_strings message (s ∷ ss) m =
    let p = parsed_of_message message s ss m in
    let all : first_not is_message_byte message ≡ length message = subst (λ (bytes : List ℕ). first_not is_message_byte bytes ≡ length bytes) (sym m.whole) (joined_bytes (s ∷ ss) m.right) in
    (p.0, tested_if message m.least m.most all ∙ p.1, p.2)

-- the strings of a message are unique
pub one_splitting : (message : List ℕ) (strings strings' : List ElementString) → IsMessage message strings → IsMessage message strings' → strings ≡ strings'
one_splitting message strings strings' m m' =
    let a = accepted_of_strings message strings m in
    let b = accepted_of_strings message strings' m' in
    sym a.2 ∙ ap (map (string_of message)) (made_same a.0 b.0 (sym a.1 ∙ b.1)) ∙ b.2

-- ten is the most that 48 bytes hold, so twelve records always suffice
pub ten_strings : (message : List ℕ) (elements : List Element) → tested message ≡ made elements → length elements ≤ 10
ten_strings message elements e =
    omega (arith, ten_of_message message (map (string_of message) elements) (strings_of_accepted message elements e), length-map elements (string_of message))
