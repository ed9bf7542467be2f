-- What the desk's answers rest on.
--
--   AskLaws      what asking found, as a line shows it
--   LeadingLaws  identifiers of five digits or more
--   BufferLaws   a buffer that holds as much of a message as fits
--   TypedLaws    widths that are typed, by what the answer tells
--   NamedLaws    a reading that names its kind, where the kind is known
--   RecordLaws   the records of a message as text, one after the other
mod AskLaws
mod LeadingLaws
mod BufferLaws
mod TypedLaws
mod NamedLaws
mod RecordLaws
