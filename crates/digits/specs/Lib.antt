-- Digits and the check digit.
--
--   is_digit, value_of   Digit      a byte that is a digit, and the digit's value
--   digits_of            Digit      the values of a number's bytes, or refusal 2
--   weight_at            Check      the weight of a digit by its distance from the check digit
--   check_of, is_right   Check      the check digit of some digits; a number whose last digit is its check digit
--   check_digit          Check      the rule of the call that computes a check digit
--   right_number         Check      the rule of the test that a number of a given count is right
--   FiveApart            Check      two digits that differ by 5
--   byte_of              Numbered   the byte of a digit
--   number_written       Numbered   the rule of every call that draws a number
--   number_read          Numbered   the rule of every call that reads one
pub mod Digit
pub mod Check
pub mod Numbered
