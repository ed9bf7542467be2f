-- ISO/IEC 15417 as document 01 narrows it: which text a run of values spells, read from a set on. Needless changes of set are legal, and
-- so is a change that nothing follows; a shift is followed by a value of 0 to 95; every byte is one of the 82, and only FNC1 gives a
-- separator.
use Rattle.std.specs.Prelude.{ℕ, ◌+◌, ◌/◌, ◌%◌, ◌≤◌, ◌<◌, ◌≡◌, true, List, [], ◌∷◌, length}
use Rattle.laws.specs.First.{first_not}
use Rattle.laws.specs.Below.{Below}
use Rattle.character_set_82.specs.Characters.{is_of82, is_message_byte}
use Rattle.code_sets.specs.Sets.{Set, set_a, byte, pair, change, shift, separator, meaning_in, byte_in, other}
use Rattle.code_sets.specs.Reading.{start_set}

pub data Spells : Set → List ℕ → List ℕ → Type 0 where
  ended : {set : Set} → Spells set [] []
  a_byte : {set : Set} {value b : ℕ} {values text : List ℕ} → meaning_in set value ≡ byte b → is_of82 b ≡ true → Spells set values text → Spells set (value ∷ values) (b ∷ text)
  a_pair : {set : Set} {value d : ℕ} {values text : List ℕ} → meaning_in set value ≡ pair d → Spells set values text → Spells set (value ∷ values) ((48 + d / 10) ∷ (48 + d % 10) ∷ text)
  a_shift : {set : Set} {value shifted : ℕ} {values text : List ℕ} → meaning_in set value ≡ shift → shifted < 96 → is_of82 (byte_in (other set) shifted) ≡ true → Spells set values text → Spells set (value ∷ shifted ∷ values) (byte_in (other set) shifted ∷ text)
  a_change : {set next : Set} {value : ℕ} {values text : List ℕ} → meaning_in set value ≡ change next → Spells next values text → Spells set (value ∷ values) text
  a_separator : {set : Set} {value : ℕ} {values text : List ℕ} → meaning_in set value ≡ separator → Spells set values text → Spells set (value ∷ values) (29 ∷ text)

-- no value of it is a shift or a change to set A: a spelling that begins in set B or C uses only these two
abbrev pub OnlyBC : {set : Set} {values text : List ℕ} → Spells set values text → Type 0
OnlyBC ended = Unit
OnlyBC (a_byte means legal rest) = OnlyBC rest
OnlyBC (a_pair means rest) = OnlyBC rest
OnlyBC (a_shift means low legal rest) = ⊥
OnlyBC (a_change {next = next} means rest) = (next ≡ set_a → ⊥) × OnlyBC rest
OnlyBC (a_separator means rest) = OnlyBC rest

abbrev pub SpellsBC : Set → List ℕ → List ℕ → Type 0
SpellsBC set values text = (spelled : Spells set values text) × OnlyBC spelled

-- every byte is one that a message can have
abbrev pub Plain : List ℕ → Type 0
Plain text = first_not is_message_byte text ≡ length text

-- a start of set B or C, the first FNC1, and values of 0 to 102 that spell the text in these two sets
pub record Spelled (spelling text : List ℕ) : Type 0 where
  pub start : ℕ
  pub values : List ℕ
  pub is : spelling ≡ start ∷ 102 ∷ values
  pub least : 104 ≤ start
  pub most : start ≤ 105
  pub spells : Spells (start_set start) values text
  pub allowed : Below 103 values
  pub only : OnlyBC spells
