-- Lines of answer.
--
--   shown_as, Shows             Lines   a list as a line shows it, and what can be shown so
--   numbers_line, answer_line   Lines   the line of two numbers; of what a call answered
--   counted_line                Lines   the line of a list, with some text between its count and the list
--   line_of, list_line          Lines   the line of what a rule makes; with one space between
--   Made, made_line             Lines   the same of what a call left at the front of a lent list
pub mod Lines
