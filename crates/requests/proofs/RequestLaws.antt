-- What the code finds of a line is what the rule says of it: a word that was cut where it ends is the rule's word, and each outcome of the
-- code's tests is the rule's. And a call is lent at most 700 places, where `room` asks for no more.
use Rattle.std.specs.Prelude.{Option, unwrap_or, Some, None, Ok, Err}
use Prim.Native.Nat.{ℕ, ◌+◌, ◌-◌, ◌≤◌}
use mathlib.Core.Path.{◌≡◌}
use mathlib.Core.Bool.{Bool, true, false}
use mathlib.Core.List.{List}
use native.Mathlib.Nat.{add-sub_cancel_left}
use lib.ListN.{length, take, drop}
use borrow.Author.Tests.{eq-eqb, ne_eqb}
use Rattle.laws.specs.Text.{as_bytes}
use Rattle.patterns.specs.Patterns.{same}
use Rattle.text.specs.Numeral.{number_in}
use Rattle.requests.specs.declared.Argument.TheVariants.{Places, Call as ACall}
use Rattle.requests.specs.declared.Fault.TheVariants.{NoSuchCall, Missing, Malformed}
use Rattle.requests.specs.declared.Request.TheVariants.{Call, Help}
use Rattle.requests.specs.declared.words.Named.{Named}
use Rattle.requests.specs.Words.{calls, named_in}
use Rattle.requests.specs.Requests.{size_at, word_at, call_at, in_room, request_of}

-- a word of a line, which ends where the code says
module _ (line : List ℕ) (from end : ℕ) (ends : end ≡ from + size_at line from) where
  pub word_cut : word_at line from ≡ take (end - from) (drop from line)
  word_cut = rw (ends, add-sub_cancel_left)

  module _ (room : Option ℕ) {test : Bool} (tests : test ≡ same (take (end - from) (drop from line)) (as_bytes "help")) where
    pub help_called : test ≡ true → (Ok Help) ≡ call_at line from room
    unfolding call_at
    help_called met = rw (word_cut, ← tests, met)

    pub none_called : test ≡ false → None ≡ named_in calls (take (end - from) (drop from line)) → Err NoSuchCall ≡ call_at line from room
    unfolding call_at
    none_called unmet names = rw (word_cut, ← tests, unmet, ← names)

    module _ {named : Named} (unmet : test ≡ false) (names : Some named ≡ named_in calls (take (end - from) (drop from line))) where
      pub call_alone : end ≡ length line → Err (Missing named.first) ≡ call_at line from room
      unfolding call_at
      call_alone e = rw (word_cut, ← tests, unmet, ← names, ← ends, eq-eqb end (length line) e)

      pub call_made : (end ≡ length line → ⊥) → Ok (Call named.call (unwrap_or room named.usual) (end + 1)) ≡ call_at line from room
      unfolding call_at
      call_made h = rw (word_cut, ← tests, unmet, ← names, ← ends, ne_eqb end (length line) h)

  pub none_roomed : None ≡ number_in (take (end - from) (drop from line)) 700 → Err (Malformed Places) ≡ in_room line from
  unfolding in_room
  none_roomed reads = rw (word_cut, ← reads)

  module _ {places : ℕ} (reads : Some places ≡ number_in (take (end - from) (drop from line)) 700) where
    pub room_alone : end ≡ length line → Err (Missing ACall) ≡ in_room line from
    unfolding in_room
    room_alone e = rw (word_cut, ← reads, ← ends, eq-eqb end (length line) e)

    pub room_made : (end ≡ length line → ⊥) → call_at line (end + 1) (Some places) ≡ in_room line from
    unfolding in_room
    room_made h = rw (word_cut, ← reads, ← ends, ne_eqb end (length line) h)

module _ (line : List ℕ) (end : ℕ) (ends : end ≡ 0 + size_at line 0) (some : length line ≡ 0 → ⊥) {test : Bool} (tests : test ≡ same (take (end - 0) line) (as_bytes "room")) where
  pub call_asked : test ≡ false → call_at line 0 None ≡ request_of line
  unfolding request_of
  call_asked unmet = rw (ne_eqb (length line) 0 some, word_cut line 0 end ends, ← tests, unmet)

  pub places_missing : test ≡ true → end ≡ length line → Err (Missing Places) ≡ request_of line
  unfolding request_of
  places_missing met e = rw (ne_eqb (length line) 0 some, word_cut line 0 end ends, ← tests, met, ← ends, eq-eqb end (length line) e)

  pub room_asked : test ≡ true → (end ≡ length line → ⊥) → in_room line (end + 1) ≡ request_of line
  unfolding request_of
  room_asked met h = rw (ne_eqb (length line) 0 some, word_cut line 0 end ends, ← tests, met, ← ends, ne_eqb end (length line) h)

pub places_within : (room : Option ℕ) (usual : ℕ) → unwrap_or room 700 ≤ 700 → usual ≤ 700 → unwrap_or room usual ≤ 700
places_within None usual h usual_fits = usual_fits
places_within (Some places) usual h usual_fits = h
