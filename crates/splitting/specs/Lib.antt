-- Splitting a message into records.
--
--   record_of, string_in   Splitting   the record of an element string, and the string that a record stands for
--   splits                 Splitting   a whole message split: refusals 1, 2, 9, 10, 11 and 12
--   blank_record           Records     a record that nothing was written to
pub mod Splitting
pub mod Records
