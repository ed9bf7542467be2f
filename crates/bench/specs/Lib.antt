-- The bench program's lines.
--
--   answers             Line        the line that answers a line
--   longest_answer      Line        room for any answer
--   long_line           LongLines   lines of more than 48 bytes
--   long_lines_alike    LongLines   the law of `Answerer`
pub mod Line
pub mod LongLines
