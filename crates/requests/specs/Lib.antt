-- The desk's lines as requests.
--
--   Row, calls, named_in           Words      the words with their arguments: the one table that `help` and every line go by
--   row_of, named_by               Words      a row of the code's table, and what a table of such rows says of a word
--   request_of, in_room, call_at   Requests   what a line asks for
--   leading_of, capped             Requests   an identifier that is typed before other arguments
--   Within, LeadsWithin            Requests   places that lie within what was typed
--   help_line, fault_line          Texts      what the desk says of its words, and of what is no request
pub mod Words
pub mod Requests
pub mod Texts
