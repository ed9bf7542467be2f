-- What a block of lines rests on, and what the law of `Answerer` says.
--
--   BlockLaws   one line more of a block
--   Theorems    lines that haven't ended
mod BlockLaws
pub mod Theorems
