-- What the readers of sets A, B and C promise one another: each is handed the text so far and goes on with it, a value at a time.
use Rattle.std.specs.Prelude.{ℕ, ◌+◌, ◌≤◌, ◌≡◌, Bool, true, cond, ◌&&◌, List, ◌++◌, length, take, drop, leb, Result, Ok, Err}
use Rattle.std.proofs.lemmas.List.Edits.{sets}
use Rattle.refusal.specs.declared.Refusal.{Refusal}
use Rattle.refusal.specs.declared.Refusal.TheVariants.{Sequence}
use Rattle.refusal.specs.Outcome.{Outcome, made, refused, ◌>>=◌, ◌>>◌, must}
use Rattle.code_sets.specs.declared.readers.Run.{Run}
use Rattle.code_sets.specs.declared.readers.Run.TheVariants.{On, ToA, ToB, ToC}
use Rattle.code_sets.specs.Sets.{Set, set_a, set_b, set_c}
use Rattle.code_sets.specs.Reading.{Mode, in_set, spells}

-- the text so far and what the values spell after it: 48 bytes at the most
unfoldable pub read_on : List ℕ → Mode → List ℕ → Outcome (List ℕ)
read_on so_far mode values = do
  text ← spells mode values
  must (leb (length (so_far ++ text)) 48) Sequence
  made (so_far ++ text)

-- what is to be read from a place of the values on, after the bytes before a place of a list
abbrev pub to_read : Mode → List ℕ → ℕ → List ℕ → ℕ → Outcome (List ℕ)
to_read mode values from before at = read_on (take at before) mode (drop from values)

-- a reading that began in one mode has come to another, at a later place of the values and of the list: what is to be read is the same
pub record Came (mode : Mode) (values : List ℕ) (from : ℕ) (before : List ℕ) (at : ℕ) (next : Mode) (i : ℕ) (text : List ℕ) (n : ℕ) : Type 0 where
  pub further : from ≤ i
  pub within : i ≤ length values
  pub size : length text ≡ 48
  pub more : at ≤ n
  pub few : n ≤ 48
  pub same : to_read mode values from before at ≡ to_read next values i text n
  pub rest : drop n text ≡ drop n before

-- the answer of a run: it has come so far in its own set, past a least place; or to a change, past at least one value; or the rule refuses
abbrev pub Reached : Mode → Set → List ℕ → ℕ → List ℕ → ℕ → ℕ → Result Run Refusal → List ℕ → Type 0
Reached mode set values from before at least (Ok (On i n)) after = (least ≤ i) × Came mode values from before at (in_set set) i after n
Reached mode set values from before at least (Ok (ToA i n)) after = (from + 1 ≤ i) × Came mode values from before at (in_set set_a) i after n
Reached mode set values from before at least (Ok (ToB i n)) after = (from + 1 ≤ i) × Came mode values from before at (in_set set_b) i after n
Reached mode set values from before at least (Ok (ToC i n)) after = (from + 1 ≤ i) × Came mode values from before at (in_set set_c) i after n
Reached mode set values from before at least (Err f) after = to_read mode values from before at ≡ refused f

pub record Runs (mode : Mode) (set : Set) (values : List ℕ) (from : ℕ) (before : List ℕ) (at least : ℕ) (r : Result Run Refusal) (after : List ℕ) : Type 0 where
  pub reached : Reached mode set values from before at least r after

abbrev pub changed : Set → ℕ → ℕ → Run
changed set_a i n = ToA i n
changed set_b i n = ToB i n
changed set_c i n = ToC i n

-- bytes put at a place of a list, where they are legal and there is room, to go on at a place of the values
pub record RunPuts (legal : Bool) (bytes : List ℕ) (next at : ℕ) (before : List ℕ) (r : Result Run Refusal) (after : List ℕ) : Type 0 where
  pub answer : r ≡ cond (legal && leb (at + length bytes) (length before)) (Ok (On next (at + length bytes))) (Err Sequence)
  pub lent : (legal && leb (at + length bytes) (length before)) ≡ true → after ≡ sets before at bytes
