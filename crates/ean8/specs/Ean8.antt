-- Document 01: "EAN-8, 43 widths: the same guards, four in A, four in C."
use Rattle.std.specs.Prelude.{ℕ, List, take, drop}
use Rattle.refusal.specs.Outcome.{Outcome}
use Rattle.digits.specs.Numbered.{number_written, number_read}
use Rattle.ean_upc.specs.declared.tables.Sets.TheVariants.{A}
use Rattle.ean_upc.specs.Halves.{halves_drawn, halves_in}

unfoldable pub symbol : List ℕ → List ℕ
symbol digits = halves_drawn A (take 4 digits) (drop 4 digits)

unfoldable pub scanned : List ℕ → Outcome (List ℕ)
scanned widths = halves_in A 4 widths

unfoldable pub writes : List ℕ → ℕ → Outcome (List ℕ)
writes = number_written 8 symbol

unfoldable pub reads : List ℕ → ℕ → Outcome (List ℕ)
reads widths room = number_read (scanned widths) room
