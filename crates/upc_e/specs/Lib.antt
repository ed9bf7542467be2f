-- UPC-E.
--
--   expanded                       Condensing   the twelve digits that a short number stands for
--   shorts, first_fit, condensed   Condensing   the short number of twelve digits, by the first rule that fits: refusal 14
--   is_own                         Condensing   whether a short number is the one that its digits are condensed to
--   framed, values_in              UpcE         the widths of six characters between the guards, and their values: refusals 1, 4 and 5
--   symbol                         UpcE         the widths of a short number
--   check_from, scanned            UpcE         the check digit, and the short number that widths hold
--   writes, reads                  UpcE         the rules of the two calls
pub mod Condensing
pub mod UpcE
