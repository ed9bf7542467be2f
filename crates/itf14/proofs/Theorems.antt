-- ITF-14 comes back: what is written, read, is the number that was given; what is read, written, is the list that was read. So a number has
-- one list of bars and a list one number. Every list written has 77 widths, which sum to 241.
use Prim.Native.Nat.{ℕ, ◌≤◌}
use mathlib.Core.Path.{◌≡◌}
use mathlib.Core.List.{List}
use lib.ListN.{length}
use Rattle.laws.specs.Sum.{sum}
use Rattle.laws.specs.Below.{Below}
use Rattle.refusal.specs.Outcome.{made}
use Rattle.digits.proofs.NumberedLaws as Numbered
use Rattle.itf14.specs.Itf14.{symbol, scanned, writes, reads}
use Rattle.itf14.proofs.SymbolLaws.{scan_of_symbol, symbol_of_scan, widths_below as below_of_symbol}
pub use Rattle.itf14.proofs.SymbolLaws.{length_of_symbol, sum_of_symbol}

pub read_of_write : (number widths : List ℕ) (room room' : ℕ) → writes number room ≡ made widths → 14 ≤ room' → reads widths room' ≡ made number
unfolding writes reads
read_of_write = Numbered.read_of_write 14 symbol scanned scan_of_symbol

pub write_of_read : (widths number : List ℕ) (room room' : ℕ) → reads widths room ≡ made number → length widths ≤ room' → writes number room' ≡ made widths
unfolding writes reads
write_of_read = Numbered.write_of_read 14 symbol scanned symbol_of_scan

-- no two lists are read as one number
pub one_list : (widths widths' number : List ℕ) (room room' : ℕ) → reads widths room ≡ made number → reads widths' room' ≡ made number → widths ≡ widths'
unfolding reads
one_list = Numbered.one_list 14 symbol scanned symbol_of_scan

-- no two numbers are drawn as one list
pub one_number : (number number' widths : List ℕ) (room room' : ℕ) → writes number room ≡ made widths → writes number' room' ≡ made widths → number ≡ number'
unfolding writes
one_number = Numbered.one_number 14 symbol scanned scan_of_symbol

-- equal numbers have equal bars, however much room they are given
pub equal_bars : (number widths widths' : List ℕ) (room room' : ℕ) → writes number room ≡ made widths → writes number room' ≡ made widths' → widths ≡ widths'
unfolding writes
equal_bars = Numbered.equal_bars 14 symbol

pub length_of_written : (number widths : List ℕ) (room : ℕ) → writes number room ≡ made widths → length widths ≡ 77
unfolding writes
length_of_written = Numbered.of_written 14 symbol (λ (widths : List ℕ). length widths ≡ 77) length_of_symbol

pub sum_of_written : (number widths : List ℕ) (room : ℕ) → writes number room ≡ made widths → sum widths ≡ 241
unfolding writes
sum_of_written = Numbered.of_written 14 symbol (λ (widths : List ℕ). sum widths ≡ 241) sum_of_symbol

-- every width has one digit
pub widths_below : (number widths : List ℕ) (room : ℕ) → writes number room ≡ made widths → Below 10 widths
unfolding writes
widths_below = Numbered.of_written 14 symbol (Below 10) below_of_symbol
