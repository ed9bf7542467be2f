-- Demand 3 is not promised for UPC-E: two right symbols of two numbers that differ by one inner edge, moved by two modules. Computed.
use Prim.Native.Nat.{ℕ}
use mathlib.Core.Path.{◌≡◌, refl}
use mathlib.Core.List.{List, map}
use lib.ListN.{set}
use Rattle.laws.specs.First.{first_not}
use Rattle.laws.specs.Text.{as_bytes}
use Rattle.laws.specs.Weighed.{weighed}
use Rattle.refusal.specs.Outcome.{made}
use Rattle.digits.specs.Digit.{value_of}
use Rattle.digits.specs.Check.{weight_at, is_right}
use Rattle.patterns.specs.Patterns.{same, value_in, characters}
use Rattle.patterns.specs.Between.{between}
use Rattle.upc_e.specs.Condensing.{expanded, shorts, first_fit, condensed, is_own}
use Rattle.upc_e.specs.UpcE.{scanned, reads}

abbrev pub printed : List ℕ
printed = map value_of (as_bytes "111112311233211231131121132111111")

-- the edge between the last two widths before the end guard
abbrev pub moved : List ℕ
moved = set (set printed 25 1) 26 4

pub edge_unseen : (reads printed 12 ≡ made (as_bytes "000040000091")) × (reads moved 12 ≡ made (as_bytes "000049000061"))
unfolding reads scanned between characters value_in first_not same is_right weighed weight_at expanded is_own condensed shorts first_fit
edge_unseen = (refl, refl)
