-- Asking a message for one identifier.
--
--   named, asked         Asking   the element string of an identifier: refusal 13, once the test of the message has passed
--   part_of, length_of   Asking   the part of the message that is its data, and how long it is
pub mod Asking
