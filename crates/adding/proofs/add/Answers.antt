-- `adding::add` meets its promise: what the judge refuses is passed on, and what is composed is the rule's message.
use Prim.Native.Nat.{ℕ}
use mathlib.Core.Path.{◌≡◌, ap, ◌∙◌}
use mathlib.Core.List.{List, [], ◌∷◌, ◌++◌}
use native.Mathlib.Omega.{arith}
use lib.ListN.{length, take}
use lib.Seq.{length-take-le}
use Rattle.laws.proofs.Results.{passed_on}
use Rattle.refusal.specs.declared.Refusal.TheVariants.{Count}
use Rattle.refusal.specs.Outcome.{made}
use Rattle.refusal.specs.Fills.{laying}
use Rattle.refusal.proofs.FillsLaws.{refused_of_answer, made_of_answer, fills_refused, fills_passed, fills_same}
use Rattle.character_set_82.specs.Characters.{separator}
use Rattle.identifiers.specs.Identifiers.{spelled}
use Rattle.adding.specs.Adding.{judged, adds}
use Rattle.adding.proofs.AddLaws.{Fits, judged_fits, adds_over, adds_beyond, adds_refused, adds_laying}
use Rattle.adding.proofs.add.Goals.{Else-buffer-count, In_ok-closing, then-count-gt48-via-then-count-gt48, then-count-gt48-via-else-count-gt48+then-buffer-count}
use Rattle.adding.proofs.add.Goals as goal

pub returns-then-count-gt48 : goal.returns-then-count-gt48
returns-then-count-gt48 c =
    let buffer = c.args.buffer.now in
    let count = c.args.count in
    let x = c.args.identifier in
    let content = c.args.content.now in
    fills_refused _ Count _ (elim c.then-count-gt48.branch [
      | then-count-gt48-via-then-count-gt48 w ↦ adds_over buffer count x content w.if-count-gt48.true
      | then-count-gt48-via-else-count-gt48+then-buffer-count w ↦ adds_beyond buffer count x content w.if-count-gt48.false w.if-buffer-count.true
    ])

old-long : (c : Else-buffer-count) → length (take c.args.count c.args.buffer.now) ≡ c.args.count
old-long c =
    let count = c.args.count in
    let buffer = c.args.buffer.now in
    length-take-le count buffer (omega arith)

pub returns-in_err-closing : goal.returns-in_err-closing
returns-in_err-closing c =
    let buffer = c.args.buffer.now in
    let f = c.in_err-closing.field-0.0 in
    let stopped = refused_of_answer _ f c.in_err-closing.ensures in
    fills_passed _ f _ _ (passed_on _ f c.from_residual.ensures.1)
    (adds_refused buffer c.args.count c.args.identifier c.args.content.now (omega arith) (omega arith) f stopped)

is-judged : (c : In_ok-closing) → (between : List ℕ) × (judged (take c.args.count c.args.buffer.now) c.args.identifier c.args.content.now ≡ made between) × (length between ≡ c.in_ok-closing.closing)
is-judged c =
    made_of_answer _ c.in_ok-closing.closing c.in_ok-closing.ensures

fits : (c : In_ok-closing) → Fits (take c.args.count c.args.buffer.now) c.args.identifier c.args.content.now ((is-judged c).0)
fits c =
    let count = c.args.count in
    let buffer = c.args.buffer.now in
    let old = take count buffer in
    let x = c.args.identifier in
    let content = c.args.content.now in
    let between = (is-judged c).0 in
    judged_fits old x content between (is-judged c).1

rule : (c : In_ok-closing) → adds c.args.buffer.now c.args.count c.args.identifier c.args.content.now ≡ laying ((take c.args.count c.args.buffer.now) ++ take c.in_ok-closing.closing (separator ∷ []) ++ spelled c.args.identifier ++ c.args.content.now) (length c.args.buffer.now)
rule c =
    let between = (is-judged c).0 in
    let n = c.in_ok-closing.closing in
    let buffer = c.args.buffer.now in
    let count = c.args.count in
    let x = c.args.identifier in
    let content = c.args.content.now in
    let is : between ≡ take n (separator ∷ []) = (fits c).is_take ∙ ap (λ (k : ℕ). take k (separator ∷ [])) (is-judged c).2 in
    rw (← is) (adds_laying buffer count x content (omega arith) (omega arith) between (is-judged c).1)

pub compose-requires : goal.compose-requires
compose-requires c =
    let there = (goal.at.compose-requires c).In_ok-closing in
    let f = fits there in
    let long = (is-judged there).2 in
    record { count_in_bounds = omega arith; closing_bound = omega (arith, f.short); identifier_bound = f.small; content_bound = omega (arith, f.most, old-long (goal.at.compose-requires c).Else-buffer-count) }

pub returns : goal.returns
returns c =
    let buffer = c.args.buffer.now in
    fills_same _ _ buffer _ _ (rule (goal.at.returns c).In_ok-closing) c.compose.ensures
