-- Laws of bytes cut at a byte.
--
--   CutLaws   the first part, and what is left after it
pub mod CutLaws
