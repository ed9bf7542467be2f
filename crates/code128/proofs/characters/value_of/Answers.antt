-- `code128::characters::value_of` meets its contract: the candidate is the only value that the widths can have, and they have it where they
-- are packed into its pattern's number.
use Prim.Native.Nat.{ℕ, ◌<◌}
use mathlib.Core.Path.{◌≡◌, sym, ap, ◌∙◌}
use mathlib.Core.List.{[]}
use native.Mathlib.Omega.{arith}
use lib.ListN.{get_or}
use Rattle.laws.specs.Packed.{packed}
use Rattle.laws.proofs.Packed.{Bytes}
use Rattle.patterns.proofs.MatchLaws.{match_found, match_none}
use Rattle.code128.specs.Characters.{patterns}
use Rattle.code128.specs.Matching.{key_of, candidate_of, packed_patterns}
use Rattle.code128.proofs.PatternLaws.{patterns_are, distinct_test}
use Rattle.code128.proofs.MatchingLaws.{packed_six, candidate_below, packed_at, candidate, one_value_of, candidate_same}
use Rattle.code128.proofs.characters.value_of.Goals.{After-packed_of}
use Rattle.code128.proofs.characters.value_of.Goals as goal

bytes : (c : After-packed_of) → Bytes c.args.part.now
bytes c i h =
    omega (arith, c.type_inv.part i)

packs : (c : After-packed_of) → c.packed_six-widths.result ≡ packed c.args.part.now
packs c =
    let part = c.args.part.now in
    c.packed_six-widths.ensures ∙ packed_six part c.requires

below : (c : After-packed_of) → candidate c.args.part.now < 106
below c =
    let part = c.args.part.now in
    candidate_below (key_of (packed part)) (omega arith)

theirs : (c : After-packed_of) → c.candidate_of-candidate.result ≡ candidate c.args.part.now
theirs c =
    c.candidate_of-candidate.ensures.value ∙ ap candidate_of (c.key_of.ensures.value ∙ ap key_of (packs c))

pattern : (c : After-packed_of) → c.packed_of.result ≡ packed (get_or patterns (candidate c.args.part.now) [])
pattern c =
    let part = c.args.part.now in
    c.packed_of.ensures ∙ ap (λ (v : ℕ). get_or packed_patterns v 0) (theirs c) ∙ packed_at (candidate part) (below c)

pub returns-then-widths-packed_of : goal.returns-then-widths-packed_of
returns-then-widths-packed_of c =
    let there = (goal.at.returns-then-widths-packed_of c).After-packed_of in
    let part = c.args.part.now in
    rw (theirs there)
    (match_found patterns part (candidate part) distinct_test (rw patterns_are (below there))
    (candidate_same part c.requires (bytes there) (sym (packs there) ∙ c.if-widths-packed_of.true ∙ pattern there)))

pub returns-else-widths-packed_of : goal.returns-else-widths-packed_of
returns-else-widths-packed_of c =
    let there = (goal.at.returns-else-widths-packed_of c).After-packed_of in
    let part = c.args.part.now in
    match_none patterns part (candidate part) (one_value_of part)
    (λ h same. c.if-widths-packed_of.false (packs there ∙ ap packed (sym same) ∙ sym (pattern there)))
