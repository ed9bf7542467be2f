-- What a call answers, in document 01's terms.
--
--   number_of, place_of      Numbers   a refusal's number and place, by document 01's table
--   printed                  Numbers   the two as document 01 prints them
--   Outcome, made, refused   Outcome   what a rule makes of its input: a value, or the first refusal that applies
--   ◌>>=◌, ◌>>◌, must        Outcome   the lines of a rule, in the order of refusals
--   answered, answer_of      Fills     what a call answers whose rule made a number, or a list
--   laid, Fills              Fills     what a lent list then holds; both together, the promise of every call that fills one
--   FillsOwn                 Fills     the same for a working list of a call's own
--   laying                   Fills     the rule of a list that is laid whole
pub mod Numbers
pub mod Outcome
pub mod Fills
