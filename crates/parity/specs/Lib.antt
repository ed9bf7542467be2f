-- What sets A and B tell beside the digits.
--
--   A, B                             Letters   the letters that name sets A and B
--   in_sets                          Letters   the values of digits, each in the set that its letter names
--   by_first_digit, by_check_digit   Rows      the six letters that stand for a first digit, and for a check digit
--   rows_of                          Rows      the one or the other
pub mod Letters
pub mod Rows
