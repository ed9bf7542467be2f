-- Lines that are answered, whatever answers a line.
--
--   IsLine, AreLines    Block   bytes of a line, none of them a byte 10
--   ended, answers_to   Block   lines with the byte 10 that ends each, and their answers
--   Answered            Block   what has been done with the lines of a block
--   Cut, Held           Block   the lines that end in a block, and what is kept of the one that doesn't
pub mod Block
