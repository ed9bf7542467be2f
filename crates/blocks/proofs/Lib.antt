-- What taking the next block rests on.
--
--   HoldsLaws   bytes moved to the front are held, whatever is read after them
mod HoldsLaws
