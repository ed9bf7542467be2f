-- EAN-13, there and back, on the rules of its calls: what is written is read as the number, and what is read is written as the list that was
-- read. So one number has one symbol, and one symbol one number.
use Prim.Native.Nat.{ℕ, ◌≤◌}
use mathlib.Core.Path.{◌≡◌}
use mathlib.Core.List.{List}
use lib.ListN.{length}
use Rattle.laws.specs.Below.{Below}
use Rattle.refusal.specs.Outcome.{made}
use Rattle.digits.proofs.NumberedLaws as Numbered
use Rattle.ean13.specs.Ean13.{symbol, scanned, writes, reads}
use Rattle.ean13.proofs.SymbolLaws as Symbol

pub read_of_write : (number widths : List ℕ) (room room' : ℕ) → writes number room ≡ made widths → 13 ≤ room' → reads widths room' ≡ made number
unfolding writes reads
read_of_write = Numbered.read_of_write 13 symbol scanned Symbol.scan_of_symbol

pub write_of_read : (widths number : List ℕ) (room room' : ℕ) → reads widths room ≡ made number → length widths ≤ room' → writes number room' ≡ made widths
unfolding writes reads
write_of_read = Numbered.write_of_read 13 symbol scanned Symbol.symbol_of_scan

-- equal numbers have equal bars, whatever the room
pub equal_bars : (number widths widths' : List ℕ) (room room' : ℕ) → writes number room ≡ made widths → writes number room' ≡ made widths' → widths ≡ widths'
unfolding writes
equal_bars = Numbered.equal_bars 13 symbol

-- no two numbers have the same bars
pub one_number : (number number' widths : List ℕ) (room room' : ℕ) → writes number room ≡ made widths → writes number' room' ≡ made widths → number ≡ number'
unfolding writes
one_number = Numbered.one_number 13 symbol scanned Symbol.scan_of_symbol

-- no two lists are read as one number
pub one_list : (widths widths' number : List ℕ) (room room' : ℕ) → reads widths room ≡ made number → reads widths' room' ≡ made number → widths ≡ widths'
unfolding reads
one_list = Numbered.one_list 13 symbol scanned Symbol.symbol_of_scan

-- "59 widths"
pub length_of_symbol : (number widths : List ℕ) (room : ℕ) → writes number room ≡ made widths → length widths ≡ 59
unfolding writes
length_of_symbol = Numbered.of_written 13 symbol (λ (widths : List ℕ). length widths ≡ 59) Symbol.length_of_symbol

-- every width has one digit
pub widths_below : (number widths : List ℕ) (room : ℕ) → writes number room ≡ made widths → Below 10 widths
unfolding writes
widths_below = Numbered.of_written 13 symbol (Below 10) Symbol.widths_below
