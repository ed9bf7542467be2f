-- Code sets A, B and C.
--
--   meaning_in            Sets       what a value means in each of the sets A, B and C; the sets and meanings are declared in src/sets.rt
--   Spells                Spelling   what a legal spelling is, as a relation
--   OnlyBC, SpellsBC      Spelling   the legal spellings that use only sets B and C
--   Plain, Spelled        Spelling   a text of message bytes; a start, FNC1 and values that spell a text
--   spells, decoded       Reading    the rule of the readers: the text of some values, or refusal 8
--   read_on               Readers    what is to be read, after the text so far
--   Came, Runs, RunPuts   Readers    how far a reading has come, and what each function of the readers answers
pub mod Sets
pub mod Reading
pub mod Spelling
pub mod Readers
