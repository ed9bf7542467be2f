-- What the functions' proofs, and the crates of the symbologies, rest on.
--
--   SetLaws      the patterns of a half, by computed tests
--   DrawnLaws    halves drawn part by part
--   HalvesLaws   two halves between their guards, there and back
pub mod SetLaws
pub mod DrawnLaws
pub mod HalvesLaws
