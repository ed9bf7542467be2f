-- Document 01: "Reading passes back and forth between the sets at each change, and ends with the characters." Refusal 8: "illegal sequence
-- of symbol characters, or the message read is empty or over 48".
use Rattle.std.specs.Prelude.{ℕ, ◌+◌, ◌/◌, ◌%◌, Bool, true, false, cond, ◌&&◌, List, [], ◌∷◌, ◌++◌, length, leb, ltb, eqb}
use Rattle.character_set_82.specs.Characters.{is_of82}
use Rattle.refusal.specs.declared.Refusal.TheVariants.{Sequence}
use Rattle.refusal.specs.Outcome.{Outcome, made, refused, ◌>>=◌, ◌>>◌, must}
use Rattle.code_sets.specs.Sets.{Set, set_a, set_b, set_c, Meaning, byte, pair, change, shift, separator, illegal, meaning_in, byte_in, other}

-- what a reader goes on with: a set, or one character in the other of A and B first
pub data Mode : Type 0 where
  in_set : Set → Mode
  shifted_from : Set → Mode

-- the bytes of one value, and how to go on
pub data Step : Type 0 where
  step : List ℕ → Mode → Step
  stuck : Step

abbrev pub emitted : Bool → List ℕ → Mode → Step
emitted true bytes mode = step bytes mode
emitted false bytes mode = stuck

abbrev pub meant : Set → Meaning → Step
meant set (byte b) = emitted (is_of82 b) (b ∷ []) (in_set set)
meant set (pair d) = step ((48 + d / 10) ∷ (48 + d % 10) ∷ []) (in_set set)
meant set (change next) = step [] (in_set next)
meant set shift = step [] (shifted_from set)
meant set separator = step (29 ∷ []) (in_set set)
meant set illegal = stuck

unfoldable pub step_in : Mode → ℕ → Step
step_in (in_set set) value = meant set (meaning_in set value)
step_in (shifted_from set) value =
    emitted (ltb value 96 && is_of82 (byte_in (other set) value)) (byte_in (other set) value ∷ []) (in_set set)

abbrev pub finished : Mode → Outcome (List ℕ)
finished (in_set set) = made []
finished (shifted_from set) = refused Sequence

-- the bytes of a step before those of what follows
abbrev pub go_on : Step → (Mode → Outcome (List ℕ)) → Outcome (List ℕ)
go_on (step bytes next) rest = do
  text ← rest next
  made (bytes ++ text)
go_on stuck rest = refused Sequence

-- the text that values spell, read in a mode
unfoldable pub spells : Mode → List ℕ → Outcome (List ℕ)
spells mode [] = finished mode
spells mode (value ∷ values) = go_on (step_in mode value) (λ next. spells next values)

-- "103, 104, 105 start sets A, B, C"
abbrev pub start_set : ℕ → Set
start_set start = cond (eqb start 103) set_a (cond (eqb start 104) set_b set_c)

-- the message that a start and the values after the first FNC1 spell
unfoldable pub decoded : ℕ → List ℕ → Outcome (List ℕ)
decoded start values = do
  text ← spells (in_set (start_set start)) values
  must (leb 1 (length text) && leb (length text) 48) Sequence
  made text
