-- General laws, each proved once. What the kit has already (its list, number and test laws) is cited from there.
--
--   AmongLaws      whether a number is among others, and among those of a run
--   BelowLaws      lists whose elements are all below a bound
--   Booleans       tests joined by "and", and those that can't hold
--   Copying        a loop that copies
--   ExchangedLaws  two neighbours of a list exchanged
--   FirstChanged   a list whose every element passes a test, changed
--   FirstLaws      the first element that fails a test
--   Listed         the front of a list, written out
--   Mapped         parts of a list that was mapped
--   Packed         bytes packed into one number
--   Parts          a list written part by part
--   Ranges         what `(a..=b).contains(&x)` answers at numbers
--   Remainders     what a sum's remainder shows of its terms
--   Results        what the exit of a `?` returns
--   SumLaws        sums of lists that are joined or stored to
--   WeighedLaws    weighed sums, after a store, an exchange or one element more
--   Tables         one test, computed over a whole table, holds at each entry
pub mod AmongLaws
pub mod BelowLaws
pub mod Booleans
pub mod Copying
pub mod ExchangedLaws
pub mod FirstChanged
pub mod FirstLaws
pub mod Listed
pub mod Mapped
pub mod Packed
pub mod Parts
pub mod Ranges
pub mod Remainders
pub mod Results
pub mod SumLaws
pub mod WeighedLaws
pub mod Tables
