-- `elements::messages::count` meets its contract: at each turn the answer is that of the rule from here on, with the strings passed
-- counted and their identifiers used; each string that another one follows takes four bytes, so that 48 bytes fill at most 12 places.
use Prim.Native.Nat.{ℕ, suc, ◌+◌, ◌-◌, ◌≤◌}
use mathlib.Core.Path.{◌≡◌, refl, sym, ap, ap₂, ◌∙◌}
use mathlib.Core.Bool.{false}
use mathlib.Core.List.{List, [], ◌∷◌, ◌++◌}
use native.Mathlib.Nat.{sub-zero}
use native.Mathlib.Numerals.{add-one}
use native.Mathlib.Omega.{arith}
use lib.ListN.{length, take, set, length-set}
use lib.Seq.{take-suc-set}
use Rattle.refusal.specs.Outcome.{made}
use Rattle.refusal.specs.Fills.{answer_of}
use Rattle.refusal.proofs.FillsLaws.{refused_of_answered, made_of_answered}
use Rattle.laws.specs.Among.{among}
use Rattle.laws.proofs.AmongLaws.{any_among}
use Rattle.laws.proofs.Results.{passed_on}
use Rattle.elements.specs.Strings.{string_at, strings_from, parsed}
use Rattle.elements.proofs.CountLaws.{counted, counted_none, found_next, from_refused, from_repeated, from_last, from_more}
use Rattle.elements.proofs.messages.count.Goals.{At-loop-element, After-contains, In_ok-element}
use Rattle.elements.proofs.messages.count.Goals as goal

pub loop-element-init : goal.loop-element-init
unfolding parsed
loop-element-init c =
    (omega arith, omega arith, refl, rw sub-zero (counted_none (parsed c.args.message.now)))

-- the rule has a turn left for each string
fuel : (size count : ℕ) → count ≤ size → suc size - count ≡ suc (size - count)
fuel size count h = omega arith

so_far : (c : At-loop-element) → answer_of (parsed c.args.message.now) ≡ counted c.loop-element.count (strings_from (suc (length c.args.message.now - c.loop-element.count)) c.args.message.now c.loop-element.at (take c.loop-element.count c.loop-element.used))
so_far c =
    let at = c.loop-element.at in
    let message = c.args.message.now in
    let count = c.loop-element.count in
    let names = take count c.loop-element.used in
    c.loop-element.invariant.3 ∙ ap (λ (k : ℕ). counted count (strings_from k message at names)) (fuel (length message) count (omega arith))

pub returns-in_err-element : goal.returns-in_err-element
returns-in_err-element c =
    let message = c.args.message.now in
    let at = c.loop-element.at in
    let count = c.loop-element.count in
    let names = take count c.loop-element.used in
    let f = c.in_err-element.field-0.0 in
    let here = refused_of_answered (string_at message at) f c.in_err-element.ensures in
    passed_on _ f c.from_residual.ensures.1
    ∙ sym (so_far (goal.at.returns-in_err-element c).At-loop-element ∙ ap (counted count) (from_refused (length message - count) message at names f here))

here : (c : In_ok-element) → string_at c.args.message.now c.loop-element.at ≡ made c.in_ok-element.element
here c =
    made_of_answered (string_at c.args.message.now c.loop-element.at) c.in_ok-element.element c.in_ok-element.ensures

next : (c : In_ok-element) → c.in_ok-element.element.last ≡ false → (c.in_ok-element.element.next ≤ length c.args.message.now) × (c.loop-element.at + 4 ≤ c.in_ok-element.element.next)
next c goes =
    found_next c.args.message.now c.loop-element.at c.in_ok-element.element c.loop-element.invariant.0 c.in_ok-element.ensures goes

used-before : (c : After-contains) → among (take c.loop-element.count c.loop-element.used) c.in_ok-element.element.identifier ≡ c.contains.result
used-before c =
    sym (c.contains.ensures.value ∙ any_among (take c.loop-element.count c.loop-element.used) c.in_ok-element.element.identifier)

pub returns-then-contains : goal.returns-then-contains
returns-then-contains c =
    let message = c.args.message.now in
    let count = c.loop-element.count in
    let at = c.loop-element.at in
    let names = take count c.loop-element.used in
    let string = c.in_ok-element.element in
    let k = length message - count in
    let repeated = used-before (goal.at.returns-then-contains c).After-contains ∙ c.if-contains.true in
    sym (so_far (goal.at.returns-then-contains c).At-loop-element ∙ ap (counted count) (from_repeated k message at names string (here (goal.at.returns-then-contains c).In_ok-element) repeated))

pub returns-then-element : goal.returns-then-element
returns-then-element c =
    let message = c.args.message.now in
    let count = c.loop-element.count in
    let at = c.loop-element.at in
    let names = take count c.loop-element.used in
    let string = c.in_ok-element.element in
    let k = length message - count in
    sym (so_far (goal.at.returns-then-element c).At-loop-element ∙ ap (counted count) (from_last k message at names string (here (goal.at.returns-then-element c).In_ok-element) (used-before (goal.at.returns-then-element c).After-contains ∙ c.if-contains.false) c.if-element.true))

pub bounds-used-count : goal.bounds-used-count
bounds-used-count c =
    omega (arith, next (goal.at.bounds-used-count c).In_ok-element c.if-element.false, c.requires)

pub loop-element-smaller : goal.loop-element-smaller
loop-element-smaller c =
    omega (arith, next (goal.at.loop-element-smaller c).In_ok-element c.if-element.false)

pub loop-element-preserved : goal.loop-element-preserved
loop-element-preserved c =
    let there = (goal.at.loop-element-preserved c).In_ok-element in
    let count = c.loop-element.count in
    let string = c.in_ok-element.element in
    let message = c.args.message.now in
    let names = take count c.loop-element.used in
    let at = c.loop-element.at in
    let used = c.loop-element.used in
    let x = string.identifier in
    let further = next there c.if-element.false in
    let one_less : length message - count ≡ suc (length message) - (count + 1) = omega arith in
    let one_more : names ++ (x ∷ []) ≡ take (count + 1) (set used count x) =
    sym (ap (λ (k : ℕ). take k (set used count x)) (add-one count) ∙ take-suc-set used count x (omega (arith, c.requires))) in (
      further.0,
      omega arith,
      length-set used count x ∙ c.loop-element.invariant.2,
      so_far (goal.at.loop-element-preserved c).At-loop-element
          ∙ from_more (length message - count) message at names string (here there) (used-before (goal.at.loop-element-preserved c).After-contains ∙ c.if-contains.false) c.if-element.false count
          ∙ ap₂ (λ (k : ℕ) (more : List ℕ). counted (count + 1) (strings_from k message string.next more)) one_less one_more,
    )
