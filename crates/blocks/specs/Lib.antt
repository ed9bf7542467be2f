-- Input taken in blocks.
--
--   filled    Blocks   how many bytes of the input a block fills
--   IfBlock   Blocks   what is said of a block, where one was taken
--   IfLast    Blocks   what is said of the last block, where that was taken
--   Holds     Blocks   what is held of a block while the next one is read after it
pub mod Blocks
