-- EAN-13.
--
--   symbol              Ean13   the widths of thirteen digits
--   first_of, scanned   Ean13   the first digit, and all the digits that widths hold: refusals 1, 4 and 5
--   writes, reads       Ean13   the rules of the two calls
pub mod Ean13
