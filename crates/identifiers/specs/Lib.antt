-- Identifiers and their data.
--
--   table, kind_of                   Identifiers   document 01's table, a row for each kind of identifier
--   spelled, listed, identifier_in   Identifiers   an identifier's digits, and the one that some bytes begin with
--   passes, right_data               Data          the test that each content must pass
--   row_of, row_at, sized            Rows          what the inner calls answer, and what they rely on
pub mod Identifiers
pub mod Data
pub mod Rows
