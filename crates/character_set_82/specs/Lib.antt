-- The characters of a message.
--
--   eighty_two, is_of82       Characters   GS1's 82 characters, in order of value
--   separator, to_separator   Characters   byte 29, and the place of the first one
--   is_message_byte           Characters   one of the 82, or the separator
pub mod Characters
