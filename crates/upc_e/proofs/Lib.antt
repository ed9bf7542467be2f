-- What the functions' proofs rest on, and the theorems.
--
--   CondensingLaws   what is condensed stands for the digits that it came from; where a rule fits
--   FalseSymbols     which short numbers are not their own
--   SymbolLaws       the scan and the symbol undo one another
--   Theorems         the same of the calls' rules, and what follows
--   AsEan13          what is read, with a 0 before it, is a right number of thirteen digits
--   Damage           one width changed, and one of the first five characters replaced, are refused
--   EdgeUnseen       a moved edge that no reader can see
pub mod CondensingLaws
pub mod FalseSymbols
pub mod SymbolLaws
pub mod Theorems
pub mod AsEan13
pub mod Damage
pub mod EdgeUnseen
