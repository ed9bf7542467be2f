-- What the symbols of the EAN/UPC family share.
--
--   set_a, set_b, set_c   Tables   the widths of the ten digits in each set
--   guard, centre         Tables   the guard patterns
--   patterns_of           Halves   the patterns of a half, by the sets that it takes its characters from
--   halves_drawn          Halves   the widths of two halves between their guards
--   guarded, halves_in    Halves   the values that such widths hold: refusals 1, 4 and 5
pub mod Tables
pub mod Halves
