-- The kinds of symbol, and a list whose kind is not named.
--
--   KindLaws      what a list tells of its kind
--   Theorems      an unnamed list is read exactly as the kind whose own reader reads it; no list as two
--   ReadingLaws   the joint call is naming and reading
--   ByKind        a call that takes a kind fills by that kind's rule
--   WrittenLaws   every width that is drawn has one digit
pub mod KindLaws
pub mod Theorems
pub mod ReadingLaws
pub mod ByKind
pub mod WrittenLaws
