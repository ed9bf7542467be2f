-- `identifiers::row_of` meets its contract: each arm is reached by the identifiers of one row, which are computed to have it; what is left
-- lies between the listed ones.
use mathlib.Core.Path.{◌≡◌, refl, sym, ◌∙◌}
use mathlib.Core.Bool.{true, false}
use mathlib.Core.List.{[], ◌∷◌}
use mathlib.Core.Logic.{inl}
use native.Mathlib.Omega.{arith}
use Rattle.laws.specs.First.{first_not}
use Rattle.identifiers.specs.declared.Content.TheVariants.{DigitsWithCheck, Date, Digits, Text}
use Rattle.laws.specs.Among.{place_in, among}
use Rattle.identifiers.specs.Identifiers.{exactly, up_to, measures, table, identifiers_of, listed}
use Rattle.laws.proofs.AmongLaws.{in_run, all_among}
use Rattle.identifiers.proofs.RowLaws.{place_in_table, in_row, row_at_place, row_of_keys, not_others, row_of_gap, row_from}
use Rattle.identifiers.proofs.row_of.Goals.{then-identifier-lt14, else-identifier-lt14+else-identifier-lt15, in-90-1, in_default+else-identifier-lt18+else-identifier-lt240+then-identifier-lt242, in_default-via-then-identifier-lt18+else-identifier-lt3+then-identifier-lt10, in_default-via-then-identifier-lt18+else-identifier-lt3+else-identifier-lt10+else-identifier-lt14+then-identifier-lt15, in_default-via-else-identifier-lt18+then-identifier-lt240, in_default-via-else-identifier-lt18+else-identifier-lt240+else-identifier-lt242+then-identifier-lt410, in_default-via-else-identifier-lt18+else-identifier-lt240+else-identifier-lt242+else-identifier-lt410+else-identifier-lt416}
use Rattle.identifiers.proofs.row_of.Goals as goal

pub returns-in-0 : goal.returns-in-0
unfolding place_in_table table measures place_in first_not
returns-in-0 c =
    let x = c.args.identifier in
    row_at_place x 0 (exactly 18 DigitsWithCheck) (row_of_keys (0 ∷ []) 0 refl x c.in-0.is) refl c.exactly-kind.result c.exactly-kind.ensures

pub returns-in-20 : goal.returns-in-20
unfolding place_in_table table measures place_in first_not
returns-in-20 c =
    let x = c.args.identifier in
    row_at_place x 4 (exactly 2 Digits) (row_of_keys (20 ∷ []) 4 refl x c.in-20.is) refl c.exactly-kind-in-20.result c.exactly-kind-in-20.ensures

pub returns-in-30 : goal.returns-in-30
unfolding place_in_table table measures place_in first_not
returns-in-30 c =
    let x = c.args.identifier in
    row_at_place x 6 (up_to 8 Digits) (row_of_keys (30 ∷ 37 ∷ []) 6 refl x c.in-30.is) refl c.up_to-kind.result c.up_to-kind.ensures

pub returns-in-10 : goal.returns-in-10
unfolding place_in_table table measures place_in first_not
returns-in-10 c =
    let x = c.args.identifier in
    row_at_place x 7 (up_to 20 Text) (row_of_keys (10 ∷ 21 ∷ []) 7 refl x c.in-10.is) refl c.up_to-kind-in-10.result c.up_to-kind-in-10.ensures

pub returns-in-1 : goal.returns-in-1
unfolding place_in_table table measures place_in first_not
returns-in-1 c =
    let x = c.args.identifier in
    let other : x ≡ 0 → ⊥ = c.in-1.in_default-own.rest.0.0.0.0.1 in
    row_at_place x 1 (exactly 14 DigitsWithCheck)
    (in_run (in_row 1) 1 2 true tt x (omega arith) (omega arith))
    refl c.exactly-kind-in-1.result c.exactly-kind-in-1.ensures

pub returns-in-410 : goal.returns-in-410
unfolding place_in_table table measures place_in first_not
returns-in-410 c =
    let identifier = c.args.identifier in
    row_at_place identifier 2 (exactly 13 DigitsWithCheck)
    (in_run (in_row 2) 410 6 true tt identifier (omega arith) (omega arith))
    refl c.exactly-kind-in-410.result c.exactly-kind-in-410.ensures

pub returns-in-11 : goal.returns-in-11
unfolding place_in_table table measures place_in first_not
returns-in-11 c =
    let x = c.args.identifier in
    let other : x ≡ 10 → ⊥ = λ e. c.in_default-1.rest.0.1 (inl e) in
    row_at_place x 3 (exactly 6 Date)
    (elim c.in-11-1.branch [
      | then-identifier-lt14 w ↦ in_run (in_row 3) 11 3 true tt x (omega arith) (omega arith)
      | else-identifier-lt14+else-identifier-lt15 w ↦ in_run (in_row 3) 15 3 true tt x (omega arith) (omega arith)
    ])
    refl c.exactly-kind-in-11.result c.exactly-kind-in-11.ensures

pub returns-in_default : goal.returns-in_default
unfolding place_in_table table measures place_in first_not
returns-in_default c =
    let identifier = c.args.identifier in
    let measure : among measures identifier ≡ true = sym c.is_measure.ensures ∙ c.if-is_measure.true in
    row_at_place identifier 5 (exactly 6 Digits)
    (all_among (in_row 5) measures refl identifier measure)
    refl c.exactly-kind-in_default.result c.exactly-kind-in_default.ensures

pub returns-in_default-2 : goal.returns-in_default-2
unfolding listed identifiers_of table measures place_in first_not
returns-in_default-2 c =
    let x = c.args.identifier in
    let rest = c.in_default-1.rest in
    let measure : among measures x ≡ false = sym c.is_measure.ensures ∙ c.if-is_measure.false in
    let other = not_others x rest.0.0.0.0.1 rest.0.0.0.1 rest.0.0.1 rest.0.1 rest.1 measure in
    elim c.in_default.branch [
      | in_default-via-then-identifier-lt18+else-identifier-lt3+then-identifier-lt10 w ↦ row_of_gap 3 10 x refl other (omega arith) (omega arith)
      | in_default-via-then-identifier-lt18+else-identifier-lt3+else-identifier-lt10+else-identifier-lt14+then-identifier-lt15 w ↦ row_of_gap 14 15 x refl other (omega arith) (omega arith)
      | in_default-via-else-identifier-lt18+then-identifier-lt240 w ↦ row_of_gap 18 240 x refl other (omega arith) (omega arith)
      | in_default-via-else-identifier-lt18+else-identifier-lt240+else-identifier-lt242+then-identifier-lt410 w ↦ row_of_gap 242 410 x refl other (omega arith) (omega arith)
      | in_default-via-else-identifier-lt18+else-identifier-lt240+else-identifier-lt242+else-identifier-lt410+else-identifier-lt416 w ↦ row_from 416 x refl other (omega arith)
    ]

pub returns-in-240 : goal.returns-in-240
unfolding place_in_table table measures place_in first_not
returns-in-240 c =
    let x = c.args.identifier in
    row_at_place x 8 (up_to 30 Text)
    (elim c.in-240-1.branch [
      | in-90-1 w ↦ row_of_keys (90 ∷ 250 ∷ 400 ∷ []) 8 refl x w.in-90-1.keys5
      | in_default+else-identifier-lt18+else-identifier-lt240+then-identifier-lt242 w ↦ in_run (in_row 8) 240 2 true tt x (omega arith) (omega arith)
    ])
    refl c.up_to-kind-in-240.result c.up_to-kind-in-240.ensures
