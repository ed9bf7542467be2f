-- Bytes cut at a byte.
--
--   other_than   Cut   a byte that doesn't end a part
--   cut_at       Cut   the parts
pub mod Cut
