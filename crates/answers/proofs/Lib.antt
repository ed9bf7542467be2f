-- What a line says of a call.
--
--   LineLaws   the line of what a call left in a lent list is the line of what its rule makes
pub mod LineLaws
