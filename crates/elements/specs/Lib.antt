-- Element strings and messages.
--
--   data_of, next_after, element_of, string_at   Strings    one element string, where one must begin: refusals 9 and 10
--   strings_from, parsed, tested                 Strings    a whole message: refusals 1, 2, 9, 10 and 11
--   ElementString, Right, joined, IsMessage      Messages   what a message is, as a relation
--   used_in, string_of                           Messages   the identifiers of some strings; a string as it stands in a message
--   sought                                       Found      what the call answers that looks for one string
pub mod Strings
pub mod Messages
pub mod Found
