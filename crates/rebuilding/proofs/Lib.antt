-- Theorem 4 of the design across the calls: what was split or read is rebuilt by adding.
--
--   Theorems   from the records of a message, and from a symbol
pub mod Theorems
