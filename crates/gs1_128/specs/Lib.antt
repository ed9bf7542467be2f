-- GS1-128.
--
--   with_check, checked        Symbol     the values after a start with their check character; the start too
--   symbol_of                  Symbol     the widths of these, and the stop
--   permitted, count_of        Symbol     how many widths a symbol may have, and its n
--   starts, allowed            Symbol     the patterns that start a symbol, and those that may follow
--   start_in, values_in        Scanning   what widths hold: the start and the values, with refusals 4 and 5
--   judged_values              Scanning   values judged, wherever they were found: refusals 6 and 7
--   scanned                    Scanning   these stages one after the other, after refusal 1
--   message_from, message_in   Rules      the message that values spell, with refusals 8 to 11; and the one that widths hold
--   best_symbol                Rules      the symbol that is drawn for a message
--   reads, writes              Rules      the rules of the two calls
--   IsSymbol                   Right      what a right symbol of a message is, as a relation
pub mod Symbol
pub mod Scanning
pub mod Rules
pub mod Right
