-- `Gs1128::write` meets its promise: what the test of the message refuses is passed on, and what is drawn are the characters of the best
-- spelling.
use Rattle.std.proofs.Common.{◌≡◌, ℕ, List, ◌++◌, length, ap, sym, ◌∙◌}
use Rattle.laws.proofs.Results.{passed_on}
use Rattle.refusal.specs.Outcome.{made}
use Rattle.refusal.specs.Fills.{laying}
use Rattle.refusal.proofs.FillsLaws.{refused_of_answer, made_of_answer, fills_refused, fills_same}
use Rattle.elements.specs.declared.Element.{Element}
use Rattle.elements.specs.Strings.{tested}
use Rattle.elements.proofs.FromRule.{Accepted, tested_made}
use Rattle.patterns.specs.Patterns.{drawn}
use Rattle.code128.specs.Characters.{patterns, stop}
use Rattle.gs1_128.proofs.WrittenLaws.{write_refused, write_made, characters_have_patterns, symbol_of_best}
use Rattle.gs1_128.proofs.Gs1128.write.Goals.{In_ok-test}
use Rattle.gs1_128.proofs.Gs1128.write.Goals as goal

pub returns-in_err-test : goal.returns-in_err-test
returns-in_err-test c =
    let f = c.in_err-test.field-0.0 in
    rw (passed_on _ f c.from_residual.ensures.1)
    (fills_refused _ f _ (write_refused c.args.message.now _ f (refused_of_answer _ f c.in_err-test.ensures)))

passed : (c : In_ok-test) → (strings : List Element) × (tested c.args.message.now ≡ made strings) × (length strings ≡ c.in_ok-test.field-0)
passed c = made_of_answer (tested c.args.message.now) c.in_ok-test.field-0 c.in_ok-test.ensures

accepted : (c : In_ok-test) → Accepted c.args.message.now (passed c).0
accepted c = tested_made c.args.message.now (passed c).0 (passed c).1

pub characters_of-count-requires-clause-message_len_bound : goal.characters_of-count-requires-clause-message_len_bound
characters_of-count-requires-clause-message_len_bound c = (accepted (goal.at.characters_of-count-requires-clause-message_len_bound c).In_ok-test).most

pub characters_of-count-requires-clause-message_value : goal.characters_of-count-requires-clause-message_value
characters_of-count-requires-clause-message_value c = (accepted (goal.at.characters_of-count-requires-clause-message_value c).In_ok-test).bytes

pub draw-requires-clause-below : goal.draw-requires-clause-below
draw-requires-clause-below c =
    rw c.characters_of-count.ensures.characters_after
    (characters_have_patterns c.args.message.now (accepted (goal.at.draw-requires-clause-below c).In_ok-test))

pub returns : goal.returns
returns c =
    let there = (goal.at.returns c).In_ok-test in
    let message = c.args.message.now in
    fills_same _ _ _ _ _
    (write_made message _ (passed there).0 (passed there).1
    ∙ ap (λ (widths : List ℕ). laying widths (length c.args.widths.now))
    (symbol_of_best message (accepted there) ∙ ap (λ (characters : List ℕ). drawn patterns characters ++ stop) (sym c.characters_of-count.ensures.characters_after)))
    c.draw.ensures
