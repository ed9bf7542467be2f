-- What adding rests on, and theorem 4 for it.
--
--   AddLaws        the lines of the rule, one after the other, as the calls meet them
--   AddedStrings   adding gives the message of the strings and the new one; a message rebuilt in a buffer by adding its strings
--   AddRefusals    8 and 12 come only where nothing else is wrong
--   AddAlike       what adding doesn't look at: the buffer past the message so far, and how large a number is that is no identifier
pub mod AddLaws
pub mod AddedStrings
pub mod AddRefusals
pub mod AddAlike
