-- General notions that the rules of several crates are written in.
--
--   first_not   First       the place of the first element that fails a test
--   packed      Packed      bytes as one number
--   sum         Sum         the sum of a list
--   weighed     Weighed     a sum in which each element has a weight by its distance from the right end
--   Below       Below       every element of a list is below a bound
--   Each        Each        something is true of every element of a list
--   run         Run         numbers in order
--   place_in    Among       the place of a number in a list
--   among       Among       whether it is one of them
--   exchanged   Exchanged   two neighbours of a list exchanged
--   as_bytes    Text        the bytes of a text that is written in quotes
pub mod First
pub mod Below
pub mod Each
pub mod Packed
pub mod Sum
pub mod Weighed
pub mod Run
pub mod Among
pub mod Exchanged
pub mod Text
