-- What the calls on digits rest on, and what a check digit does and cannot do.
--
--   DigitLaws          bytes that are digits
--   Weights            the weights 3 and 1 take turns
--   NumberedLaws       drawing and reading a number undo one another, over any symbology
--   TheoremsOnValues   the laws of the check digit, on values
--   TheoremsOnRules    what the two rules make, each case by itself
--   Theorems           the laws of the check digit, on the rules
pub mod DigitLaws
pub mod Weights
pub mod NumberedLaws
pub mod TheoremsOnValues
pub mod TheoremsOnRules
pub mod Theorems
