-- Numbers, widths and messages as text.
--
--   last_of, decimal_of       Decimal   the byte of a number's last digit; its digits, the fewest that hold it
--   apart, record_text        Decimal   two numbers, one space apart; a record's three
--   Puts                      Puts      bytes written at the front of a lent list, and their count answered
--   is_numeral, number_from   Numeral   bytes that are a decimal numeral, and the number that they say
--   number_in, capped_in      Numeral   the rule of reading a numeral that says at most a given number, or that is cut to it
--   message_of, typed_of      Typed     the message that typed bytes stand for, `^` for a separator, and a message as it is typed
--   run_together, widths_in   Widths    widths, one digit each, and the widths that a text says
--   Takes                     Widths    the widths that a text says, put at the front of a list
pub mod Decimal
pub mod Puts
pub mod Numeral
pub mod Typed
pub mod Widths
