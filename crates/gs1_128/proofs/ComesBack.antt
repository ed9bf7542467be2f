-- GS1-128 comes back: the best spelling of a right message is a legal one of 3 to 50 values, so its symbol is right by theorem 2 and is read
-- as that message. What is read and written again keeps its contents and never has more widths, since no legal spelling is shorter.
use Prim.Native.Nat.{ℕ, ◌+◌, ◌*◌, ◌≤◌}
use mathlib.Core.Path.{◌≡◌, refl, sym, ap, ◌∙◌, subst}
use mathlib.Core.List.{List}
use native.Mathlib.Omega.{arith}
use lib.ListN.{length}
use Rattle.laws.specs.Below.{Below}
use Rattle.refusal.specs.Outcome.{made}
use Rattle.refusal.proofs.OutcomeLaws.{bind_made}
use Rattle.refusal.proofs.FillsLaws.{laying_made, made_of_laying}
use Rattle.elements.specs.Strings.{tested}
use Rattle.elements.specs.Messages.{ElementString, IsMessage}
use Rattle.elements.proofs.FromRule.{tested_made}
use Rattle.elements.proofs.Theorems.{strings_of_accepted, accepted_of_strings}
use Rattle.code_sets.specs.Spelling.{Spelled}
use Rattle.spelling.specs.Best.{best_spelling}
use Rattle.spelling.proofs.BestLaws.{best_short, best_long}
use Rattle.spelling.proofs.BestSpelled.{best_is_spelled}
use Rattle.spelling.proofs.Shortest.{none_shorter}
use Rattle.gs1_128.specs.Symbol.{symbol_of}
use Rattle.gs1_128.specs.Rules.{message_in, reads, best_symbol, writes}
use Rattle.gs1_128.specs.Right.{IsSymbol}
use Rattle.gs1_128.proofs.DrawnLaws.{symbol_below}
use Rattle.gs1_128.proofs.Theorems.{read_as_symbol, call_reads_symbol, one_message, length_of_right}

-- of a right message
module _ (message : List ℕ) (strings : List ElementString) (m : IsMessage message strings) where
  spelled : Spelled (best_spelling message) message
  spelled = let t = accepted_of_strings message strings m in best_is_spelled message (tested_made message t.0 t.1).bytes

  count : length (best_spelling message) ≡ length spelled.values + 2
  count = ap length spelled.is ∙ omega arith

  pub best_is_symbol : IsSymbol (best_symbol message) message
  best_is_symbol = record {
    start = spelled.start;
    values = spelled.values;
    strings = strings;
    least_start = omega (arith, spelled.least);
    most_start = spelled.most;
    least = omega (arith, count, best_long message m.least);
    most = omega (arith, count, best_short message, m.most);
    allowed = spelled.allowed;
    spelled = spelled.spells;
    right = m;
    drawn = ap symbol_of spelled.is;
  }

  pub length_of_best : length (best_symbol message) ≡ 6 * length (best_spelling message) + 13
  unfolding best_is_symbol
  length_of_best = omega (arith, length_of_right best_is_symbol, count)

  -- n is at most 49
  pub best_room : length (best_symbol message) ≤ 313
  best_room = omega (arith, length_of_best, best_short message, m.most)

  pub read_of_best : message_in (best_symbol message) ≡ made message
  read_of_best = (read_as_symbol (best_symbol message) message).1 best_is_symbol

  pub writes_best : (room : ℕ) → length (best_symbol message) ≤ room → writes message room ≡ made (best_symbol message)
  unfolding writes
  writes_best room h = rw (accepted_of_strings message strings m).1 (laying_made (best_symbol message) room h)

-- what was written is the best symbol of a right message, for which there was room
pub written : (message widths : List ℕ) (room : ℕ) → writes message room ≡ made widths → IsSymbol widths message × (widths ≡ best_symbol message) × (length widths ≤ room)
unfolding writes
written message widths room e =
    let w = bind_made (tested message) _ widths e in
    let l = made_of_laying (best_symbol message) widths room w.2 in
    subst (λ (drawn : List ℕ). IsSymbol drawn message × (drawn ≡ best_symbol message) × (length drawn ≤ room)) l.1
    (best_is_symbol message _ (strings_of_accepted message w.0 w.1), refl, l.0)

-- Comes back: what is written is read as the message that was given, by the rule and by the call.
pub message_of_written : (message widths : List ℕ) (room : ℕ) → writes message room ≡ made widths → message_in widths ≡ made message
message_of_written message widths room e = (read_as_symbol widths message).1 (written message widths room e).0

pub read_of_write : (message widths : List ℕ) (room room' : ℕ) → writes message room ≡ made widths → length message ≤ room' → reads widths room' ≡ made message
read_of_write message widths room room' e h = (call_reads_symbol widths message room').1 ((written message widths room e).0, h)

-- every width has one digit
pub widths_below : (message widths : List ℕ) (room : ℕ) → writes message room ≡ made widths → Below 10 widths
widths_below message widths room e = rw (written message widths room e).1 (symbol_below (best_spelling message))

-- no two messages are drawn as one list
pub one_message_written : (message message' widths : List ℕ) (room room' : ℕ) → writes message room ≡ made widths → writes message' room' ≡ made widths → message ≡ message'
one_message_written message message' widths room room' e e' = one_message (written message widths room e).0 (written message' widths room' e').0

-- Theorem 3's first half, in widths: no right symbol of a message has fewer than the one that is written.
pub none_narrower : {widths message : List ℕ} → IsSymbol widths message → length (best_symbol message) ≤ length widths
none_narrower {message = message} s =
    omega (
      arith,
      length_of_best message s.strings s.right,
      none_shorter s.start s.values message s.least_start s.most_start s.spelled,
      length_of_right s,
    )

-- the message of an accepted symbol, written again where that symbol had room: the same contents, and no more widths
pub write_of_read : (widths message : List ℕ) (room : ℕ) → message_in widths ≡ made message → length widths ≤ room → (again : List ℕ) × (writes message room ≡ made again) × (message_in again ≡ made message) × (length again ≤ length widths)
write_of_read widths message room o h =
    let s = (read_as_symbol widths message).0 o in
    let fewer = none_narrower s in
    (best_symbol message, writes_best message s.strings s.right room (omega arith), read_of_best message s.strings s.right, fewer)

-- Equal contents, equal bars: what is written depends on the message alone, ..
pub equal_bars : (message widths widths' : List ℕ) (room room' : ℕ) → writes message room ≡ made widths → writes message room' ≡ made widths' → widths ≡ widths'
equal_bars message widths widths' room room' e e' = (written message widths room e).1 ∙ sym (written message widths' room' e').1

-- .. a message on its element strings alone, ..
pub equal_strings : (message message' widths widths' : List ℕ) (strings : List ElementString) (room room' : ℕ) → IsMessage message strings → IsMessage message' strings → writes message room ≡ made widths → writes message' room' ≡ made widths' → widths ≡ widths'
equal_strings message message' widths widths' strings room room' m m' e e' =
    (written message widths room e).1 ∙ ap best_symbol (m.whole ∙ sym m'.whole) ∙ sym (written message' widths' room' e').1

-- .. and so two accepted symbols of one message, however they were spelled, are one list when they are written again
pub equal_again : (widths widths' message : List ℕ) (room room' : ℕ) → message_in widths ≡ made message → message_in widths' ≡ made message → length widths ≤ room → length widths' ≤ room' → (again : List ℕ) × (writes message room ≡ made again) × (writes message room' ≡ made again)
equal_again widths widths' message room room' o o' h h' =
    let a = write_of_read widths message room o h in
    let b = write_of_read widths' message room' o' h' in
    (a.0, a.1, b.1 ∙ ap made (equal_bars message b.0 a.0 room' room b.1 a.1))
