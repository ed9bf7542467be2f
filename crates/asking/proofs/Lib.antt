-- What asking rests on, and theorem 5.
--
--   AskLaws      the string of an identifier, by the walk that looks for it, and where it stands
--   AskedData    asking gives that string's data, and a refusal in every other case
--   AskedLarge   each number of five digits or more is asked for as any other of them
pub mod AskLaws
pub mod AskedData
pub mod AskedLarge
