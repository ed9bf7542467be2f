-- The documents' examples.
--
--   Example, Shown   Examples   an example, and what the rules make of it
--   Hold             Examples   a table of them holds
--   examples         Examples   P1 to P14
--   existing_dates   Examples   request 3's
pub mod Examples
