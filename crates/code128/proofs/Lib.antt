-- Laws of the characters and of the check.
--
--   PatternLaws    the 106 patterns, by computed tests
--   MatchingLaws   one look finds the one value that six widths can have
--   PlacedLaws     the weighed sum, one value more
--   CheckLaws      how the check moves when values are replaced or exchanged
pub mod PatternLaws
pub mod MatchingLaws
pub mod PlacedLaws
pub mod CheckLaws
