-- GS1-128's symbols and their scan; what the reader and the writer rest on; theorem 2, theorem 4 for symbols, and what comes back.
--
--   TableLaws       which of the 106 patterns start a symbol, and which may follow
--   CountLaws       the permitted counts of widths
--   SymbolLaws      the scan and the drawing of a symbol undo one another
--   JudgedLaws      values are judged right exactly where FNC1 and their check stand about them
--   ReadingLaws     what the scan makes is a symbol's start and values, and every symbol's are made
--   TextLaws        a text that was decoded has only bytes of a message
--   StageLaws       the rule of the message, met by the calls stage by stage
--   WithCheckLaws   a spelling and the place of its check character
--   CheckedLaws     with its check character no other such list differs from it a little
--   DrawnLaws       characters drawn one after the other, then the stop
--   WrittenLaws     the rule of writing, line by line
--   Theorems        a list is read as a message exactly when it is a right symbol of it; one message; its strings
--   ComesBack       what is written, read; what is read, written again; equal bars
pub mod TableLaws
pub mod CountLaws
pub mod SymbolLaws
pub mod JudgedLaws
pub mod ReadingLaws
pub mod TextLaws
pub mod StageLaws
pub mod WithCheckLaws
pub mod CheckedLaws
pub mod DrawnLaws
pub mod WrittenLaws
pub mod Theorems
pub mod ComesBack
