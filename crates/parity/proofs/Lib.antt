-- What the functions' proofs rest on.
--
--   LetterLaws   letter and digit at each place, and both come back from the value
--   RowLaws      the parity rows, by computed tests, and six digits in the sets of one
pub mod LetterLaws
pub mod RowLaws
