-- A block is the front of the input: bytes that are held of a line that hasn't ended, and after them those that were read.
use Rattle.std.specs.Prelude.{ℕ, ◌+◌, ◌≤◌, ◌≡◌, List, take, drop}
use Rattle.blocks.specs.declared.Block.{Block}
use Rattle.blocks.specs.declared.Taken.{Taken}
use Rattle.blocks.specs.declared.Taken.TheVariants.{More, Last, End}

abbrev pub filled : Block → ℕ
filled block = block.held + block.more

-- what is said of a block, where one was taken
abbrev pub IfBlock : Taken → (Block → Type 0) → Type 0
IfBlock (More block) says = says block
IfBlock (Last block) says = says block
IfBlock End says = Unit

-- what is said of the last block, where that was taken
abbrev pub IfLast : Taken → (Block → Type 0) → Type 0
IfLast (More block) says = Unit
IfLast (Last block) says = says block
IfLast End says = Unit

-- the bytes of a block from `start` on, `most` of them at the most, stand at the front of `after`
pub record Holds (block : List ℕ) (start most held : ℕ) (after : List ℕ) : Type 0 where
  pub few : held ≤ most
  pub kept : take held after ≡ take most (drop start block)
