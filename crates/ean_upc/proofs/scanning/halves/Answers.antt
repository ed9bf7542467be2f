-- `ean_upc::scanning::halves` meets its contract: each `return` is the first line of the rule that refuses, and the two halves of the working
-- list are filled with the two halves' values.
use Rattle.std.specs.Prelude.{Result}
use Prim.Native.Nat.{ℕ, ◌+◌, ◌-◌, ◌*◌}
use mathlib.Core.Path.{◌≡◌, refl, sym, ap, ◌∙◌}
use mathlib.Core.Bool.{true}
use mathlib.Core.List.{List, ◌++◌}
use native.Mathlib.Omega.{arith}
use lib.ListN.{length, take, drop, length-append, length-take, length-drop}
use lib.Seq.{take_all, length-take-le}
use borrow.Author.Tests.{eq-eqb, ne_eqb}
use Rattle.laws.specs.Below.{Below}
use Rattle.laws.proofs.Parts.{last_part}
use Rattle.laws.proofs.Results.{passed_on}
use Rattle.refusal.specs.declared.Refusal.{Refusal}
use Rattle.refusal.specs.declared.Refusal.TheVariants.{Count, Guard}
use Rattle.refusal.specs.Outcome.{made}
use Rattle.refusal.specs.Fills.{FillsOwn}
use Rattle.refusal.proofs.FillsLaws.{refused_of_answer}
use Rattle.refusal.proofs.OwnLaws.{own_refused, own_passed, own_filled}
use Rattle.patterns.specs.Patterns.{characters}
use Rattle.patterns.proofs.ScanLaws.{scan_filled}
use Rattle.ean_upc.specs.Tables.{set_c}
use Rattle.ean_upc.specs.Halves.{patterns_of, guarded, halves_in}
use Rattle.ean_upc.proofs.scanning.halves.Goals.{After-half-2, Else-not-guarded}
use Rattle.ean_upc.proofs.scanning.halves.Goals as goal

pub returns-then-widths-right_at : goal.returns-then-widths-right_at
unfolding halves_in
returns-then-widths-right_at c =
    own_refused _ _ _ Count (rw (ne_eqb _ _ c.if-widths-right_at.true))

pub returns-then-not-guarded : goal.returns-then-not-guarded
unfolding halves_in
returns-then-not-guarded c =
    let unguarded = sym c.guarded.ensures ∙ c.if-not-guarded.true in
    own_refused _ _ _ Guard (rw (eq-eqb _ _ c.if-widths-right_at.false, unguarded))

guards : (c : Else-not-guarded) → guarded c.args.count c.args.widths.now ≡ true
guards c =
    sym c.guarded.ensures ∙ c.if-not-guarded.false

-- a half is scanned from where it begins to the end of the list, into as many places as it has characters
module _ (patterns : List (List ℕ)) (n first at : ℕ) (widths : List ℕ) {places after : List ℕ} {r : Result ℕ Refusal} where
  half-fills : length places ≡ n → FillsOwn (characters patterns 4 (length places) first (take (length widths - at) (drop at widths))) places r after → FillsOwn (characters patterns 4 n first (drop at widths)) places r after
  half-fills long fills =
      let onward = take_all (length widths - at) (drop at widths) (rw length-drop (omega arith)) in
      rw (long, onward) at fills

pub returns-in_err-half : goal.returns-in_err-half
unfolding halves_in
returns-in_err-half c =
    let n = c.args.count in
    let widths = c.args.widths.now in
    let f = c.in_err-half.field-0.0 in
    let long = length-take-le n c.args.values.now (omega (arith, c.requires.values_len)) in
    let fills = half-fills (patterns_of c.args.sets) n 0 3 widths long c.half.ensures in
    own_passed _ _ _ f _ (passed_on _ f c.from_residual.ensures.1)
    (rw (eq-eqb _ _ c.if-widths-right_at.false, guards (goal.at.returns-in_err-half c).Else-not-guarded, refused_of_answer _ f (sym c.in_err-half.was ∙ fills.answer)))

left_is : (c : After-half-2) → (characters (patterns_of c.args.sets) 4 c.args.count 0 (drop 3 c.args.widths.now) ≡ made c.half.new.values) × (length c.half.new.values ≡ c.args.count) × Below (length (patterns_of c.args.sets)) c.half.new.values
left_is c =
    let n = c.args.count in
    let patterns = patterns_of c.args.sets in
    let widths = c.args.widths.now in
    let long = length-take-le n c.args.values.now (omega (arith, c.requires.values_len)) in
    let fills = half-fills patterns n 0 3 widths long c.half.ensures in
    scan_filled patterns 4 n 0 (drop 3 widths) c.half.new.values _ _ c.in_ok-half.field-0 fills c.in_ok-half.was long

right_long : (c : After-half-2) → length (take (length (c.half.new.values ++ drop c.args.count c.args.values.now) - c.args.count) (drop c.args.count (c.half.new.values ++ drop c.args.count c.args.values.now))) ≡ c.args.count
right_long c =
    simp (length-take, length-drop, length-append) (omega (arith, (left_is c).1))

right-fills : (c : After-half-2) → FillsOwn (characters set_c 4 c.args.count c.args.count (drop (3 + 4 * c.args.count + 5) c.args.widths.now)) (take (length (c.half.new.values ++ drop c.args.count c.args.values.now) - c.args.count) (drop c.args.count (c.half.new.values ++ drop c.args.count c.args.values.now))) c.half-2.result c.half-2.new.values
right-fills c =
    let n = c.args.count in
    half-fills set_c n n (3 + 4 * n + 5) c.args.widths.now (right_long c) c.half-2.ensures

pub returns-in_err-half-2 : goal.returns-in_err-half-2
unfolding halves_in
returns-in_err-half-2 c =
    let there = (goal.at.returns-in_err-half-2 c).After-half-2 in
    let f = c.in_err-half-2.field-0.0 in
    own_passed _ _ _ f _ (passed_on _ f c.from_residual-in_err-half-2.ensures.1)
    (rw (eq-eqb _ _ c.if-widths-right_at.false, guards (goal.at.returns-in_err-half-2 c).Else-not-guarded, (left_is there).0, refused_of_answer _ f (sym c.in_err-half-2.was ∙ (right-fills there).answer)))

pub returns : goal.returns
unfolding halves_in
returns c =
    let there = (goal.at.returns c).After-half-2 in
    let n = c.args.count in
    let right_at = 3 + 4 * n + 5 in
    let widths = c.args.widths.now in
    let right = c.half-2.new.values in
    let left = c.half.new.values in
    let begun = left ++ drop n c.args.values.now in
    let right_places = take (length begun - n) (drop n begun) in
    let found = scan_filled set_c 4 n n (drop right_at widths) right right_places _ c.in_ok-half-2.field-0 (right-fills there) c.in_ok-half-2.was (right_long there) in
    let whole = last_part c.args.values.now left right n (left_is there).1 in
    own_filled _ _ _ _ (rw (eq-eqb _ _ c.if-widths-right_at.false, guards (goal.at.returns c).Else-not-guarded, (left_is there).0, found.0) (ap made (sym whole))) refl
    (omega (arith, ap length whole, length-append left right, (left_is there).1, found.1))
