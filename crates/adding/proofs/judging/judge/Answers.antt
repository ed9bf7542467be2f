-- `adding::judging::judge` meets its contract: each step finds what a line of the rule asks, so each `return` is what the lines come to.
use Rattle.std.specs.Prelude.{Ok, Err, Some, Option}
use Rattle.std.specs.Option.{ok_or}
use Prim.Native.Nat.{ℕ, ◌≤◌}
use mathlib.Core.Path.{◌≡◌, sym, ap, ◌∙◌}
use mathlib.Core.Bool.{true}
use mathlib.Core.List.{List}
use native.Mathlib.Omega.{arith}
use lib.ListN.{length}
use Rattle.laws.proofs.Results.{passed_on}
use Rattle.refusal.specs.declared.Refusal.TheVariants.{Identifier}
use Rattle.refusal.specs.Outcome.{made}
use Rattle.refusal.specs.Fills.{answer_of}
use Rattle.refusal.proofs.FillsLaws.{refused_of_answer, made_of_answer}
use Rattle.elements.specs.declared.Element.{Element}
use Rattle.identifiers.specs.declared.Kind.{Kind}
use Rattle.identifiers.specs.Identifiers.{kind_of, spelled}
use Rattle.identifiers.specs.Data.{right_data}
use Rattle.adding.specs.Adding.{sofar, unused_in}
use Rattle.identifiers.proofs.DataLaws.{sized_if_listed}
use Rattle.identifiers.proofs.DecisionLaws.{spelling_of}
use Rattle.identifiers.proofs.ListedLaws.{listed_if_kind}
use Rattle.identifiers.proofs.RowLaws.{kind_of_row, no_kind_of_row}
use Rattle.adding.proofs.AddLaws.{unused_short, judged_old, judged_unlisted, judged_wrong, judged_used, judged_over, judged_made}
use Rattle.adding.proofs.judging.judge.Goals.{Else-not-right_data, In_ok-closing, In_ok-kind, In_ok-test_old}
use Rattle.adding.proofs.judging.judge.Goals as goal

pub returns-in_err-test_old : goal.returns-in_err-test_old
returns-in_err-test_old c =
    let args = c.args in
    let stopped = refused_of_answer (sofar args.old.now) _ c.in_err-test_old.ensures in
    passed_on _ _ c.from_residual.ensures.1 ∙ sym (ap answer_of (judged_old args.old.now args.identifier args.content.now _ stopped))

tested-old : (c : In_ok-test_old) → (strings : List Element) × (sofar c.args.old.now ≡ made strings) × (length strings ≡ c.in_ok-test_old.field-0)
tested-old c =
    made_of_answer (sofar c.args.old.now) c.in_ok-test_old.field-0 c.in_ok-test_old.ensures

strings : (c : In_ok-test_old) → List Element
strings c =
    (tested-old c).0

right : (c : In_ok-test_old) → sofar c.args.old.now ≡ made (strings c)
unfolding strings
right c =
    (tested-old c).1

pub returns-in_err-kind : goal.returns-in_err-kind
returns-in_err-kind c =
    let there = (goal.at.returns-in_err-kind c).In_ok-test_old in
    let old = c.args.old.now in
    let x = c.args.identifier in
    let none = c.in_err-kind.ensures.ok_part in
    let is = c.in_err-kind.ensures.value ∙ ap (λ (row : Option (ℕ × Kind)). ok_or row (Identifier (length old))) none in
    let same : c.in_err-kind.field-0.0 ≡ Identifier (length old) = cc in
    passed_on _ _ c.from_residual-in_err-kind.ensures.1 ∙ ap Err same
    ∙ sym (ap answer_of (judged_unlisted old x c.args.content.now (strings there) (right there) (no_kind_of_row x (sym c.row_of.ensures ∙ none))))

listed : (c : In_ok-kind) → kind_of c.args.identifier ≡ Some c.in_ok-kind.kind
listed c =
    let x = c.args.identifier in
    (kind_of_row x c.in_ok-kind.field-0-0 c.in_ok-kind.kind (sym c.row_of.ensures ∙ c.in_ok-kind.ensures.ok_part)).1

pub right_data-requires : goal.right_data-requires
right_data-requires c =
    let x = c.args.identifier in
    let kind = c.in_ok-kind.kind in
    sized_if_listed x kind (listed (goal.at.right_data-requires c).In_ok-kind)

pub returns-then-not-right_data : goal.returns-then-not-right_data
returns-then-not-right_data c =
    let there = (goal.at.returns-then-not-right_data c).In_ok-test_old in
    let old = c.args.old.now in
    let x = c.args.identifier in
    let content = c.args.content.now in
    let kind = c.in_ok-kind.kind in
    sym (ap answer_of (judged_wrong old x content (strings there) (right there) kind (listed (goal.at.returns-then-not-right_data c).In_ok-kind) (sym c.right_data.ensures ∙ c.if-not-right_data.true)))

-- the data is right
good : (c : Else-not-right_data) → right_data c.in_ok-kind.kind c.args.content.now ≡ true
good c =
    sym c.right_data.ensures ∙ c.if-not-right_data.false

pub returns-in_err-closing : goal.returns-in_err-closing
returns-in_err-closing c =
    let at = goal.at.returns-in_err-closing c in
    let used = refused_of_answer _ _ (c.in_err-closing.ensures (strings at.In_ok-test_old) (right at.In_ok-test_old)) in
    passed_on _ _ c.from_residual-in_err-closing.ensures.1
    ∙ sym (ap answer_of (judged_used c.args.old.now c.args.identifier c.args.content.now (strings at.In_ok-test_old) (right at.In_ok-test_old) c.in_ok-kind.kind (listed at.In_ok-kind) (good at.Else-not-right_data) _ used))

-- what stands before the new string is known
closes : (c : In_ok-closing) (strings : List Element) → sofar c.args.old.now ≡ made strings → (between : List ℕ) × (unused_in strings c.args.identifier (length c.args.old.now) ≡ made between) × (length between ≡ c.in_ok-closing.closing)
closes c strings right =
    made_of_answer _ c.in_ok-closing.closing (c.in_ok-closing.ensures strings right)

short : (c : In_ok-closing) (strings : List Element) → sofar c.args.old.now ≡ made strings → c.in_ok-closing.closing ≤ 1
short c strings right =
    let known = closes c strings right in
    omega (arith, unused_short strings c.args.identifier (length c.args.old.now) known.0 known.1, known.2)

digits : (c : In_ok-kind) → length (spelled c.args.identifier) ≤ 4
digits c =
    let x = c.args.identifier in
    (spelling_of x (listed_if_kind x c.in_ok-kind.kind (listed c))).four

pub overflow_add-end : goal.overflow_add-end
overflow_add-end c =
    let at = goal.at.overflow_add-end c in
    omega (arith, short at.In_ok-closing (strings at.In_ok-test_old) (right at.In_ok-test_old), c.requires)

pub overflow_add-end-2 : goal.overflow_add-end-2
overflow_add-end-2 c =
    let at = goal.at.overflow_add-end-2 c in
    omega (arith, short at.In_ok-closing (strings at.In_ok-test_old) (right at.In_ok-test_old), c.requires, digits at.In_ok-kind, c.digits_of.ensures)

pub overflow_add-end-3 : goal.overflow_add-end-3
overflow_add-end-3 c =
    let at = goal.at.overflow_add-end-3 c in
    omega (arith, short at.In_ok-closing (strings at.In_ok-test_old) (right at.In_ok-test_old), c.requires, digits at.In_ok-kind, c.digits_of.ensures)

pub returns-then-end-content-gt48 : goal.returns-then-end-content-gt48
returns-then-end-content-gt48 c =
    let at = goal.at.returns-then-end-content-gt48 c in
    let known = closes at.In_ok-closing (strings at.In_ok-test_old) (right at.In_ok-test_old) in
    sym (ap answer_of (judged_over c.args.old.now c.args.identifier c.args.content.now (strings at.In_ok-test_old) (right at.In_ok-test_old) c.in_ok-kind.kind (listed at.In_ok-kind) (good at.Else-not-right_data) known.0 known.1 (omega (arith, c.if-end-content-gt48.true, c.digits_of.ensures, known.2))))

pub returns : goal.returns
returns c =
    let at = goal.at.returns c in
    let known = closes at.In_ok-closing (strings at.In_ok-test_old) (right at.In_ok-test_old) in
    let fits = judged_made c.args.old.now c.args.identifier c.args.content.now (strings at.In_ok-test_old) (right at.In_ok-test_old) c.in_ok-kind.kind (listed at.In_ok-kind) (good at.Else-not-right_data) known.0 known.1 (omega (arith, c.if-end-content-gt48.false, c.digits_of.ensures, known.2)) in
    ap Ok (sym known.2) ∙ sym (ap answer_of fits)
