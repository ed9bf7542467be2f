-- Laws of the table and of its data, in the order in which they build on each other.
--
--   ListedLaws     the listed identifiers; none begins with another's digits
--   SpelledLaws    an identifier and its digits give one another
--   DecisionLaws   the first two digits decide how many there are, so one look finds the row
--   RowLaws        a row by its place in the table; a number between the listed ones has none; the kind of a row
--   DataLaws       the tests of data, read backwards; a kind's sizes
--   DateLaws       a date in its parts; no day given; the days of a year
pub mod ListedLaws
pub mod SpelledLaws
pub mod DecisionLaws
pub mod RowLaws
pub mod DataLaws
pub mod DateLaws
