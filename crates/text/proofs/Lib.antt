-- Laws of numbers and widths as text.
--
--   Back          a number written and read again is the same
--   DecimalLaws   the digits of a number, met by a function that calls itself
--   NumeralLaws   a numeral, read from the left by a loop, and that it says no more than the most it may
--   PutsLaws      text put together from parts
--   WidthsLaws    widths, taken from the left by a loop
pub mod Back
pub mod DecimalLaws
pub mod NumeralLaws
pub mod PutsLaws
pub mod WidthsLaws
