-- `ean_upc::scanning::candidate` meets its contract: one computed test finds each of the twenty values where its own widths lead in the table.
use Prim.Native.Nat.{ℕ, ◌+◌, ◌*◌, ◌%◌}
use mathlib.Core.List.{List, [], ◌∷◌, ◌++◌}
use lib.ListN.{get_or}
use Rattle.ean_upc.specs.Tables.{set_a, set_b}
use Rattle.patterns.proofs.MatchLaws.{one_candidate}
use Rattle.ean_upc.proofs.scanning.candidate.Goals as goal

candidates : List (List ℕ)
candidates =
    (0 ∷ 0 ∷ 0 ∷ 0 ∷ [])
    ∷ (0 ∷ 16 ∷ 0 ∷ 0 ∷ [])
    ∷ (0 ∷ 0 ∷ 0 ∷ 0 ∷ [])
    ∷ (0 ∷ 0 ∷ 0 ∷ 0 ∷ [])
    ∷ (0 ∷ 3 ∷ 0 ∷ 0 ∷ [])
    ∷ (13 ∷ 6 ∷ 10 ∷ 4 ∷ [])
    ∷ (0 ∷ 8 ∷ 11 ∷ 5 ∷ [])
    ∷ (0 ∷ 7 ∷ 15 ∷ 0 ∷ [])
    ∷ (0 ∷ 0 ∷ 0 ∷ 0 ∷ [])
    ∷ (0 ∷ 19 ∷ 2 ∷ 17 ∷ [])
    ∷ (0 ∷ 12 ∷ 1 ∷ 0 ∷ [])
    ∷ (0 ∷ 14 ∷ 0 ∷ 0 ∷ [])
    ∷ (0 ∷ 0 ∷ 0 ∷ 0 ∷ [])
    ∷ (0 ∷ 9 ∷ 18 ∷ 0 ∷ [])
    ∷ (0 ∷ 0 ∷ 0 ∷ 0 ∷ [])
    ∷ (0 ∷ 0 ∷ 0 ∷ 0 ∷ [])
    ∷ []

-- what stands in the table for some widths
look : List ℕ → ℕ
look widths = get_or (get_or candidates (get_or widths 0 0 % 4 * 4 + get_or widths 1 0 % 4) []) (get_or widths 2 0 % 4) 0

pub returns : goal.returns
unfolding candidates look
returns c =
    rw (c.from.ensures, c.from-2.ensures) (one_candidate look (set_a ++ set_b) tt _)
