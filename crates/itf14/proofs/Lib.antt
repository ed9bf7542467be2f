-- What the functions' proofs rest on, and the theorems.
--
--   PairLaws     the table of the hundred pairs, by computed tests
--   PairedLaws   digits taken two by two, and back
--   Copied       a list written two elements a turn
--   SymbolLaws   the scan and the symbol undo one another; 77 widths that sum to 241
--   Theorems     the same of the calls' rules, and what follows
pub mod PairLaws
pub mod PairedLaws
pub mod Copied
pub mod SymbolLaws
pub mod Theorems
