-- ITF-14.
--
--   N, W, digit_rows           Tables       narrow and wide; the five elements of each digit
--   interleaved                Tables       a digit in the bars and one in the spaces
--   pairs                      Tables       the hundred pairs
--   start, stop                Tables       the patterns at the ends
--   paired, unpaired, symbol   Itf14        the widths of fourteen digits
--   scanned                    Itf14        the digits that widths hold: refusals 1, 4 and 5
--   writes, reads              Itf14        the rules of the two calls
--   wide_of, weight_at         Candidates   what a digit's wide elements weigh
--   candidate_at               Candidates   the one digit that five elements can be
pub mod Tables
pub mod Itf14
pub mod Candidates
