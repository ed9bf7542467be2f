-- The desk's lines and their answers.
--
--   called      Answers   the answer of each call, by its rule: a line for each word
--   answer_to   Answers   the answer of a line
pub mod Answers
