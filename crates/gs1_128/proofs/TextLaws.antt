-- A text that was decoded has 1 to 48 bytes, each of the 82 or the separator, so the test of a whole message comes to that of its element
-- strings.
use Prim.Native.Nat.{ℕ, suc, ◌+◌, ◌/◌, ◌%◌, ◌<◌}
use mathlib.Core.Path.{◌≡◌, refl, ap}
use mathlib.Core.Bool.{true}
use mathlib.Core.List.{List, ◌∷◌}
use native.Mathlib.Omega.{arith}
use lib.ListN.{length}
use borrow.Author.Tests.{le-leb, eq-eqb}
use Rattle.laws.specs.First.{first_not}
use Rattle.refusal.specs.Outcome.{made}
use Rattle.character_set_82.specs.Characters.{is_message_byte}
use Rattle.elements.specs.Strings.{parsed, tested}
use Rattle.character_set_82.proofs.CharacterLaws.{digit_of_82, message_byte, separator_byte}
use Rattle.code_sets.specs.declared.sets.Set.{Set}
use Rattle.code_sets.specs.declared.sets.Meaning.TheVariants.{Pair as pair}
use Rattle.code_sets.specs.Spelling.{Spells, ended, a_byte, a_pair, a_shift, a_change, a_separator}
use Rattle.code_sets.specs.Reading.{decoded}
use Rattle.code_sets.proofs.MeaningLaws.{Means, pair_of_c, means}
use Rattle.code_sets.proofs.Theorems.{decoded_as_spelled}

-- a pair is one of the hundred
below_hundred : {value d : ℕ} {set : Set} → Means value set (pair d) → d < 100
below_hundred (pair_of_c h) = h

digit_byte : (d : ℕ) → d < 10 → is_message_byte (48 + d) ≡ true
digit_byte d h = message_byte (48 + d) (digit_of_82 (48 + d) (simp (le-leb 48 (48 + d) (omega arith), le-leb (48 + d) 57 (omega arith))))

passes_more : (b : ℕ) (text : List ℕ) → is_message_byte b ≡ true → first_not is_message_byte text ≡ length text → first_not is_message_byte (b ∷ text) ≡ length (b ∷ text)
unfolding first_not
passes_more b text e rest = rw e (ap suc rest)

pub spelled_bytes : {set : Set} {values text : List ℕ} → Spells set values text → first_not is_message_byte text ≡ length text
unfolding first_not
spelled_bytes ended = refl
spelled_bytes (a_byte {b = b} {text = text} is legal rest) = passes_more b text (message_byte b legal) (spelled_bytes rest)
spelled_bytes (a_pair {d = d} {text = text} is rest) =
    let below = below_hundred (means _ _ is) in
    passes_more (48 + d / 10) ((48 + d % 10) ∷ text) (digit_byte (d / 10) (omega arith)) (passes_more (48 + d % 10) text (digit_byte (d % 10) (omega arith)) (spelled_bytes rest))
spelled_bytes (a_shift {text = text} is low legal rest) = passes_more _ text (message_byte _ legal) (spelled_bytes rest)
spelled_bytes (a_change is rest) = spelled_bytes rest
spelled_bytes (a_separator {text = text} is rest) = passes_more 29 text separator_byte (spelled_bytes rest)

pub tested_of_decoded : (start : ℕ) (values text : List ℕ) → decoded start values ≡ made text → tested text ≡ parsed text
unfolding tested
tested_of_decoded start values text e =
    let s = (decoded_as_spelled start values text).1 e in
    let all = spelled_bytes s.0 in
    simp (le-leb 1 (length text) s.1, le-leb (length text) 48 s.2, eq-eqb _ _ all)
