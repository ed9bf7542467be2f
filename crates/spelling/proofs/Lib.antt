-- The best spelling is a legal one, none is shorter, none of B and C comes before it; and how it is found.
--
--   OrderLaws     the order of spellings
--   BestLaws      one step of the best spelling
--   BestSpelled   it is a legal one
--   Shortest      no legal spelling is shorter, sets A, B and C and shifts included
--   First         none of B and C of its length comes before it
--   ChoiceLaws    lengths and first values decide
--   StateLaws     a state tells the truth of the text ahead
--   ForwardLaws   the state at a place decides the value there, and a spelling is written a value at a time
pub mod OrderLaws
pub mod BestLaws
pub mod BestSpelled
pub mod Shortest
pub mod First
pub mod ChoiceLaws
pub mod StateLaws
pub mod ForwardLaws
