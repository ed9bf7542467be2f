-- Tables of width patterns.
--
--   PatternLaws     a table and the values of widths undo one another
--   MatchLaws       what a matcher's answer says of the value
--   CharacterLaws   characters one after the other: scanned, drawn, and back
--   DrawnSums       where every pattern has the same sum
--   DrawnBelow      where every width of a table is below a bound
--   BetweenLaws     characters between a start and a stop: scanned, drawn, and back
--   ScanLaws        a scan, met by a loop
--   DrawLaws        a drawing, met by a loop
pub mod PatternLaws
pub mod MatchLaws
pub mod CharacterLaws
pub mod DrawnSums
pub mod DrawnBelow
pub mod BetweenLaws
pub mod ScanLaws
pub mod DrawLaws
