-- `elements::string_at` meets its contract: each step finds what a line of the rule asks: the row, where the data ends, whether it is right; so each
-- `return` is what the lines come to.
use Rattle.refusal.specs.Fills.{answered}
use Rattle.std.specs.Prelude.{Option, Ok, Err, Some}
use Rattle.std.specs.Option.{ok_or}
use Rattle.laws.proofs.Results.{passed_on}
use Rattle.refusal.specs.declared.Refusal.TheVariants.{Identifier}
use Prim.Native.Nat.{ℕ, ◌+◌, ◌-◌, ◌≤◌}
use mathlib.Core.Path.{◌≡◌, sym, ap, ◌∙◌}
use mathlib.Core.List.{List}
use native.Mathlib.Nat.{add-sub_cancel_left}
use native.Mathlib.Omega.{arith}
use lib.ListN.{length, take, drop, length-drop}
use Rattle.identifiers.specs.declared.Kind.{Kind}
use Rattle.identifiers.specs.Identifiers.{kind_of, spelled, identifier_in}
use Rattle.identifiers.specs.Data.{right_data}
use Rattle.elements.specs.Strings.{data_of}
use Rattle.identifiers.specs.Rows.{row_at}
use Rattle.identifiers.proofs.DataLaws.{sized_if_listed}
use Rattle.elements.proofs.StringLaws.{data_within, data_part, string_past_end, row_listed, rest_of, string_unlisted, begin_within, string_wrong, string_right, element_is}
use Rattle.elements.proofs.string_at.Goals.{After-data_length-length, After-digits_of}
use Rattle.elements.proofs.string_at.Goals as goal

pub returns-then-message-at : goal.returns-then-message-at
returns-then-message-at c =
    let args = c.args in
    sym (ap answered (string_past_end args.message.now args.at c.if-message-at.true))

row_here : (message : List ℕ) (at : ℕ) {row : Option (ℕ × Kind)} → row ≡ row_at (take (length message - at) (drop at message)) → row_at (drop at message) ≡ row
row_here message at is =
    ap row_at (sym (rest_of message at)) ∙ sym is

pub returns-in_err-identifier : goal.returns-in_err-identifier
returns-in_err-identifier c =
    let message = c.args.message.now in
    let at = c.args.at in
    let none = c.in_err-identifier.ensures.ok_part in
    let is = c.in_err-identifier.ensures.value ∙ ap (λ (row : Option (ℕ × Kind)). ok_or row (Identifier at)) none in
    let same : c.in_err-identifier.field-0.0 ≡ Identifier at = cc in
    passed_on _ _ c.from_residual.ensures.1 ∙ ap Err same ∙ sym (ap answered (string_unlisted message at (row_here message at c.row_at.ensures ∙ none)))

found : (c : After-digits_of) → (identifier_in (drop c.args.at c.args.message.now) ≡ Some c.in_ok-identifier.identifier) × (kind_of c.in_ok-identifier.identifier ≡ Some c.in_ok-identifier.kind)
found c =
    let at = c.args.at in
    let message = c.args.message.now in
    let kind = c.in_ok-identifier.kind in
    let x = c.in_ok-identifier.identifier in
    row_listed (drop at message) x kind (row_here message at c.row_at.ensures ∙ c.in_ok-identifier.ensures.ok_part)

begin-is : (c : After-digits_of) → (c.args.at + c.digits_of.result) ≡ c.args.at + length (spelled c.in_ok-identifier.identifier)
begin-is c =
    let at = c.args.at in
    ap (λ (n : ℕ). at + n) c.digits_of.ensures

inside : (c : After-digits_of) → (c.args.at + c.digits_of.result) ≤ length c.args.message.now
inside c =
    let message = c.args.message.now in
    let at = c.args.at in
    let kind = c.in_ok-identifier.kind in
    let x = c.in_ok-identifier.identifier in
    omega (arith, begin-is c, begin_within message at x kind (found c).0 (found c).1 (omega arith))

pub overflow_add-begin : goal.overflow_add-begin
overflow_add-begin c =
    omega (arith, inside c)

pub slice_bounds-data_length-count : goal.slice_bounds-data_length-count
slice_bounds-data_length-count c =
    inside c

pub slice_bounds-data_length-start : goal.slice_bounds-data_length-start
slice_bounds-data_length-start c =
    inside c

count_is : (c : After-data_length-length) → c.data_length-length.result ≡ length (data_of c.in_ok-identifier.kind (drop (c.args.at + c.digits_of.result) c.args.message.now))
count_is c =
    let kind = c.in_ok-identifier.kind in
    let at = c.args.at in
    let begin = at + c.digits_of.result in
    let message = c.args.message.now in
    c.data_length-length.ensures ∙ ap (λ (left : List ℕ). length (data_of kind left)) (rest_of message begin)

end-inside : (c : After-data_length-length) → c.args.at + c.digits_of.result ≤ length c.args.message.now → (c.args.at + c.digits_of.result) + c.data_length-length.result ≤ length c.args.message.now
end-inside c inside =
    let message = c.args.message.now in
    let begin = c.args.at + c.digits_of.result in
    omega (arith, inside, count_is c, data_within c.in_ok-identifier.kind (drop begin message), length-drop begin message)

part-is : (kind : Kind) (message : List ℕ) (begin : ℕ) {count : ℕ} → count ≡ length (data_of kind (drop begin message)) → take (begin + count - begin) (drop begin message) ≡ data_of kind (drop begin message)
part-is kind message begin is =
    let rest = drop begin message in
    ap (λ (n : ℕ). take n rest) (add-sub_cancel_left begin _ ∙ is)
    ∙ data_part kind rest

pub overflow_add-end : goal.overflow_add-end
overflow_add-end c =
    omega (arith, end-inside c (inside (goal.at.overflow_add-end c).After-digits_of))

pub slice_bounds-right_data-end : goal.slice_bounds-right_data-end
slice_bounds-right_data-end c =
    end-inside c (inside (goal.at.slice_bounds-right_data-end c).After-digits_of)

pub right_data-requires : goal.right_data-requires
right_data-requires c =
    let x = c.in_ok-identifier.identifier in
    let kind = c.in_ok-identifier.kind in
    sized_if_listed x kind (found (goal.at.right_data-requires c).After-digits_of).1

pub returns-then-not-right_data : goal.returns-then-not-right_data
returns-then-not-right_data c =
    let there = (goal.at.returns-then-not-right_data c).After-digits_of in
    let message = c.args.message.now in
    let at = c.args.at in
    let x = c.in_ok-identifier.identifier in
    let kind = c.in_ok-identifier.kind in
    let begin = at + c.digits_of.result in
    let part = part-is kind message begin (count_is (goal.at.returns-then-not-right_data c).After-data_length-length) in
    let wrong = sym (c.right_data.ensures ∙ ap (right_data kind) part) ∙ c.if-not-right_data.true in
    rw (string_wrong message at x kind (found there).0 (found there).1 begin (begin-is there) wrong)

pub next_after-requires : goal.next_after-requires
next_after-requires c =
    omega (arith, end-inside (goal.at.next_after-requires c).After-data_length-length (inside (goal.at.next_after-requires c).After-digits_of))

pub returns : goal.returns
returns c =
    let there = (goal.at.returns c).After-digits_of in
    let message = c.args.message.now in
    let x = c.in_ok-identifier.identifier in
    let kind = c.in_ok-identifier.kind in
    let at = c.args.at in
    let begin = at + c.digits_of.result in
    let count-is = count_is (goal.at.returns c).After-data_length-length in
    let part = part-is kind message begin count-is in
    let right = sym (c.right_data.ensures ∙ ap (right_data kind) part) ∙ c.if-not-right_data.false in
    ap Ok (element_is message x kind begin c.data_length-length.result c.next_after.result count-is c.next_after.ensures)
    ∙ sym (ap answered (string_right message at x kind (found there).0 (found there).1 begin (begin-is there) right))
