-- The best spelling of a message.
--
--   comes_first, better          Best     the order of spellings: fewer characters, then the smaller value at the first difference
--   Precedes                     Best     what `comes_first` means, as a relation
--   bests, from_b, from_c        Best     what is best from set B on and from set C on
--   best_spelling                Best     the shortest spelling in sets B and C, and of these the first
--   from                         States   what is best from the set that is on
--   state_at, state_of, way_of   States   the state at a place, and in which set the byte there is spelled
--   StatesOf                     States   the states of a message's places, as a list
--   Steps                        States   what the forward pass promises of one value
pub mod Best
pub mod States
