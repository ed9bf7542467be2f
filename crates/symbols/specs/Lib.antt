-- The kinds of symbol, and a list of widths whose kind is not named.
--
--   has_count              Kinds      whether a kind has symbols of so many widths
--   kind_by, kind_of       Kinds      the kind of a list, by its count and its first width; or refusal 1
--   reads_as, writes_as    Kinds      the rules of a kind's own reader and writer
--   reads                  Readings   the rule of the reader of an unnamed list: the kind and the bytes
--   reading_of, bytes_of   Readings   what it answers, and what it lays
--   FillsNamed             Readings   both together, its promise
pub mod Kinds
pub mod Readings
