-- Adding an element string to a message.
--
--   sofar, closed               Adding   the strings of the message so far, and what stands after them
--   unused_in, judged           Adding   what stands before a new string, where it may be added: refusals 2, 9, 10, 11, 8
--   added, adds                 Adding   the message with the new string, in a buffer: also refusals 1 and 12
--   Built, built_in, adds_all   Adding   strings added one by one in a lent buffer
--   SoFar, TooLong              Adding   the message so far as a relation; what is known where the result alone is too long
pub mod Adding
