-- Steps that every walk of a function by hand shares, in the calculus of `types.Kit` and `types.Run`.
--
--   Asked, starts_at, ends          Contracts   a contract's own triple: how a walk enters it, and how it ends in it
--   cells, blocks_of, recontext     Locals      all locals as a context; a context along an equation
--   var, lets, free, tests          Locals      a local read, set for the first time, freed; the test of a `while`
--   calls_of, known_as              Calls       a call by its contract; its result at the machine value that is known
--   Asking, message, asks           Calls       the same for a function that takes a message and a number
--   lent, gives_up, stores          Slices      a lent list: as a context, where it is not used again, one element stored to
--   room_for_fewer, offset_fits     Slices      what the elements of a list take
--   is_repeat, is_field             Arrays      an array of one element repeated; an array as a struct's field
--   lends_front, front_back         Arrays      the front of a local array lent as a list, and the whole array back
pub mod Contracts
pub mod Locals
pub mod Calls
pub mod Slices
pub mod Arrays
