-- EAN-8.
--
--   symbol          Ean8   the widths of eight digits
--   scanned         Ean8   the digits that widths hold: refusals 1, 4 and 5
--   writes, reads   Ean8   the rules of the two calls
pub mod Ean8
