-- The patterns of a half: in every set no two are equal and each has four widths, by computed tests; all of them are among those of A or B, so
-- that the one value that widths can have there is the only one that they can have in any; and a pattern is a row of set A, from ten on backwards.
use Prim.Native.Nat.{ℕ, ◌+◌, ◌-◌, ◌*◌, ◌<◌, ◌≤◌}
use mathlib.Core.Path.{◌≡◌, refl, sym, ap, ◌∙◌}
use mathlib.Core.List.{List, [], ◌++◌, reverse}
use native.Mathlib.Omega.{arith}
use lib.ListN.{length, get_or, get_or-append, get_or-map}
use lib.Seq.{get_or-append-add}
use lib.Dec.{T}
use Rattle.laws.specs.Below.{Below}
use Rattle.laws.specs.First.{first_not}
use Rattle.patterns.specs.Patterns.{same, value_in, drawn}
use Rattle.patterns.specs.Matching.{Candidate}
use Rattle.patterns.proofs.PatternLaws.{distinct}
use Rattle.patterns.proofs.CharacterLaws.{sized, length_of_drawn}
use Rattle.ean_upc.specs.declared.tables.Sets.{Sets}
use Rattle.ean_upc.specs.declared.tables.Sets.TheVariants.{A, AOrB, C}
use Rattle.ean_upc.specs.Tables.{set_a, set_b}
use Rattle.ean_upc.specs.Halves.{patterns_of}

pub distinct_sets : (sets : Sets) → T (distinct (patterns_of sets))
unfolding value_in first_not same
distinct_sets A = tt
distinct_sets AOrB = tt
distinct_sets C = tt

pub sized_sets : (sets : Sets) → T (sized 4 (patterns_of sets))
sized_sets A = tt
sized_sets AOrB = tt
sized_sets C = tt

pub length_of_half : (sets : Sets) (values : List ℕ) → Below (length (patterns_of sets)) values → length (drawn (patterns_of sets) values) ≡ 4 * length values
length_of_half sets values below = length_of_drawn (patterns_of sets) 4 (sized_sets sets) values below

-- every half's patterns are among those of A or B, at the same value
pub in_both : (sets : Sets) (v : ℕ) → v < length (patterns_of sets) → (v < 20) × (get_or (patterns_of sets) v [] ≡ get_or (set_a ++ set_b) v [])
in_both A v h = (omega arith, sym (get_or-append set_a set_b [] v h))
in_both AOrB v h = (h, refl)
in_both C v h = (omega arith, sym (get_or-append set_a set_b [] v h))

pub candidate_in : (sets : Sets) (widths : List ℕ) (v : ℕ) → Candidate (set_a ++ set_b) widths v → Candidate (patterns_of sets) widths v
candidate_in sets widths v candidate u h is =
    let both = in_both sets u h in
    candidate u both.0 (sym both.1 ∙ is)

pub pattern_below : (sets : Sets) (v : ℕ) → v < length (patterns_of sets) → v < 10 → get_or (patterns_of sets) v [] ≡ get_or set_a v []
pattern_below sets v h below = (in_both sets v h).1 ∙ get_or-append set_a set_b [] v below

pub pattern_above : (sets : Sets) (v : ℕ) → v < length (patterns_of sets) → 10 ≤ v → get_or (patterns_of sets) v [] ≡ reverse (get_or set_a (v - 10) [])
pattern_above sets v h above =
    let back : v ≡ 10 + (v - 10) = omega arith in
    (in_both sets v h).1 ∙ ap (λ (u : ℕ). get_or (set_a ++ set_b) u []) back
    ∙ get_or-append-add set_a set_b (v - 10) [] ∙ get_or-map reverse set_a (v - 10) []
