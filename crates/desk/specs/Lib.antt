-- The desk's long lines.
--
--   long_line          LongLines   lines of more than 4096 bytes
--   long_lines_alike   LongLines   the law of `Answerer`
pub mod LongLines
