-- Document 01, "Examples on each side": "A line ends at byte 10". So bytes that have been read are lines, each with the byte 10 that ends it,
-- and after them the beginning of a line that may go on. Each line gets its answer, in their order.
use Rattle.std.specs.Prelude.{ℕ, ◌≡◌, List, [], ◌∷◌, ◌++◌, length, take, drop}
use Rattle.laws.specs.First.{first_not}
use Rattle.blocks.specs.Blocks.{Holds}
use Rattle.lines.specs.Cut.{other_than}
use Rattle.text.specs.Puts.{Puts}

-- the bytes of a line, or of its beginning: none is a byte 10
abbrev pub IsLine : List ℕ → Type 0
IsLine bytes = first_not (other_than 10) bytes ≡ length bytes

abbrev pub AreLines : List (List ℕ) → Type 0
AreLines [] = Unit
AreLines (line ∷ lines) = IsLine line × AreLines lines

-- lines, each with its byte 10
unfoldable pub ended : List (List ℕ) → List ℕ
ended [] = []
ended (line ∷ lines) = line ++ (10 ∷ ended lines)

-- the answers to lines, by the definition of the answer to one
unfoldable pub answers_to : (List ℕ → List ℕ) → List (List ℕ) → List ℕ
answers_to answer [] = []
answers_to answer (line ∷ lines) = answer line ++ answers_to answer lines

-- the lines of a block from `from` up to `next` are answered in what was lent as `before`
pub record Answered (answer : List ℕ → List ℕ) (block : List ℕ) (from : ℕ) (before : List ℕ) (next put : ℕ) (after : List ℕ) : Type 0 where
  pub lines : List (List ℕ)
  pub are : AreLines lines
  pub all : take next block ≡ take from block ++ ended lines
  pub puts : Puts (answers_to answer lines) before put after

-- all of a block that stands before `next` is lines
pub record Cut (block : List ℕ) (next : ℕ) : Type 0 where
  pub lines : List (List ℕ)
  pub are : AreLines lines
  pub all : take next block ≡ ended lines

-- what is held at the front of `after` while the next block is read: the line that hasn't ended, `over` bytes of it at the most
pub record Held (over : ℕ) (block : List ℕ) (held : ℕ) (after : List ℕ) : Type 0 where
  pub next : ℕ
  pub cut : Cut block next
  pub rest : IsLine (drop next block)
  pub holds : Holds block next over held after
