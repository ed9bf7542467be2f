-- What the functions' proofs rest on, and the theorems.
--
--   SymbolLaws   the scan and the symbol undo one another
--   Theorems     the same of the calls' rules, and what follows
pub mod SymbolLaws
pub mod Theorems
