-- What the readers rest on, and what a legal spelling is.
--
--   MeaningLaws    which values a legal spelling has, by what they mean
--   ReaderLaws     a value is a step of the rule; steps, runs and readers follow one another
--   DecodedLaws    the text read, then judged
--   Theorems       values are read as a text exactly when they spell it; the text is unique
pub mod MeaningLaws
pub mod ReaderLaws
pub mod DecodedLaws
pub mod Theorems
