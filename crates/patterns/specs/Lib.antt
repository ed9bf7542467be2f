-- Tables of width patterns, for every symbology.
--
--   same                  Patterns   whether two lists of widths are equal
--   value_in              Patterns   the value that a table gives to some widths
--   drawn                 Patterns   the widths of some values, one after the other
--   characters            Patterns   the values of the characters in a list of widths, or refusal 5 at the first that has none
--   between               Between    the characters between a start and a stop: refusals 1, 4 and 5
--   answer_if, match_in   Matching   what a matcher answers for some widths
--   Candidate             Matching   the one value that widths can have
pub mod Patterns
pub mod Between
pub mod Matching
