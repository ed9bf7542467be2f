-- Theorem 7: the examples.
--
--   Examples   P1 to P14 in a single table, and request 3's dates in another, each under the same statement about the rules
--   Strings    P8 split into its strings, and a message of ten
pub mod Examples
pub mod Strings
