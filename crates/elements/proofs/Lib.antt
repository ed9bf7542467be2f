-- Laws of the rules, in the order in which they build on each other; then theorem 4 for the test of a message.
--
--   StringLaws     one element string where one must begin
--   CountLaws      a message, a string at a time, as a loop that counts them meets it
--   CutLaws        a message, cut where its strings end
--   PlainLaws      right data has no separator in it, and only bytes of a message
--   FromRule       what the rule accepts is a message by the relation
--   FromRelation   and the rule accepts every such message
--   WalkLaws       the strings of a right message, one at a time, and a walk that looks for one of them
--   TestRefusals   the refusals of the test, by number, and what another outcome says of the lines before
--   TenStrings     48 bytes hold ten strings at the most
--   Theorems       accepted exactly as the joining of right strings; one splitting; ten at most
pub mod StringLaws
pub mod CountLaws
pub mod CutLaws
pub mod PlainLaws
pub mod FromRule
pub mod FromRelation
pub mod WalkLaws
pub mod TestRefusals
pub mod TenStrings
pub mod Theorems
