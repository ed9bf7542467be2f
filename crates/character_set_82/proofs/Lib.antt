-- What the rules of messages and spellings need to know of the 82.
--
--   CharacterLaws   the 82 by their ranges; digits are among them, the separator is not; a message has them and it
pub mod CharacterLaws
