-- What a line rests on, and what the rule of a line says.
--
--   Example       document 01's three lines
--   WrittenLaws   the writer's rule, in a list with room for any symbol
--   Theorems      long lines, lines that haven't ended, and the refusals that are printed
mod Example
mod WrittenLaws
mod Theorems
