-- A buffer that holds as much of a message as fits is as good as any other for adding: only its length and the message in it count.
use Prim.Native.Nat.{ℕ, ◌≤◌}
use mathlib.Core.Path.{◌≡◌, refl, sym, ap, ◌∙◌}
use mathlib.Core.List.{List, [], ◌++◌, append-nil}
use native.Mathlib.Decide.{dec_le}
use native.Mathlib.Omega.{arith}
use lib.ListN.{length, take, drop, replicate, length-append, length-replicate, drop_of_length-le}
use lib.Seq.{length-take-le, take_all, take_at, take-take, take-append-le}
use Rattle.text.specs.Puts.{Puts}
use Rattle.adding.specs.Adding.{adds}
use Rattle.adding.proofs.AddAlike.{adds_by_front}
use Rattle.calls.specs.Answers.{buffer_of}

module _ (message before after : List ℕ) (r : ℕ) (put : Puts (take (length before) message) before r after) (kept : length after ≡ length before) where
  abbrev places : ℕ
  places = length before

  long : length (buffer_of places message) ≡ places
  long = length-take-le places (message ++ replicate places 0) (rw (length-append, length-replicate) (omega arith))

  -- the front of either is the message, or as much of it as fits
  alike : Dec (length message ≤ places) → take (length message) after ≡ take (length message) (buffer_of places message)
  alike (yes fits) =
      let whole = take_all places message fits in
      ap (take (length message)) put.lent
      ∙ rw whole (take_at message (drop (length message) before) (length message) refl)
      ∙ sym (take-take (length message) places (message ++ replicate places 0) fits ∙ take_at message (replicate places 0) (length message) refl)
  alike (no over) =
      let front : length (take places message) ≡ places = length-take-le places message (omega arith) in
      let none : drop (length (take places message)) before ≡ [] = drop_of_length-le before {i = length (take places message)} (omega arith) in
      let all : after ≡ take places message = put.lent ∙ ap (λ (rest : List ℕ). take places message ++ rest) none ∙ append-nil (take places message) in
      ap (take (length message)) (all ∙ sym (take-append-le places message (replicate places 0) (omega arith)))

  pub adds_in_buffer : (identifier : ℕ) (content : List ℕ) → adds (buffer_of places message) (length message) identifier content ≡ adds after (length message) identifier content
  adds_in_buffer identifier content =
      adds_by_front (buffer_of places message) after (length message) identifier content (long ∙ sym kept) (sym (alike (dec_le (length message) places)))
