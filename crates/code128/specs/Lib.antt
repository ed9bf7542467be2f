-- Code 128.
--
--   row, patterns, stop    Characters   the widths of the 106 characters and of the stop
--   bars                   Characters   every second width
--   six_packed, key_of     Matching     six widths as one number, and its key
--   candidate_of, eights   Matching     the one value that widths with a key can have
--   packed_patterns        Matching     the patterns, each as one number
--   placed, check_of       Check        the modulo 103 check
pub mod Characters
pub mod Matching
pub mod Check
