-- What splitting rests on, and theorem 4 for it.
--
--   SplitLaws      the records after k turns, and what they come to after all of them; twelve places of a list of its own
--   SplitStrings   the records are exactly the message's element strings; ten always suffice, so twelve places are as good as any more
pub mod SplitLaws
pub mod SplitStrings
