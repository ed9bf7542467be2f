-- `code_sets::text_of` meets its promise: what the readers refuse is passed on, an empty message is refused, and any other is what they put
-- at the front of the list.
use Rattle.std.proofs.Common.{◌≡◌, ◌≤◌, ℕ, List, [], length, take, refl, sym, ◌∙◌, arith}
use lib.Seq.{length-take-le}
use Rattle.laws.proofs.Results.{passed_on}
use Rattle.refusal.specs.declared.Refusal.TheVariants.{Sequence}
use Rattle.refusal.specs.Outcome.{Outcome, made}
use Rattle.refusal.proofs.FillsLaws.{refused_of_answer}
use Rattle.refusal.proofs.OwnLaws.{own_refused, own_same, own_front}
use Rattle.code_sets.specs.Reading.{in_set, start_set}
use Rattle.code_sets.specs.Readers.{read_on}
use Rattle.code_sets.proofs.DecodedLaws.{decoded_refused, decoded_empty, decoded_made}
use Rattle.code_sets.proofs.text_of.Goals.{In_ok-count}
use Rattle.code_sets.proofs.text_of.Goals as goal

-- the array is the whole list
whole : (c : In_ok-count) → c.in-Some.own.now ≡ c.args.text.now
whole c = c.in-Some.ensures.cases.same

pub returns-in_err-count : goal.returns-in_err-count
returns-in_err-count c =
    let f = c.in_err-count.field-0.0 in
    rw (passed_on _ f c.from_residual.ensures.1) (own_refused _ _ _ f (decoded_refused c.args.start c.args.values.now f (refused_of_answer _ f c.in_err-count.ensures.answer)))

module _ (c : In_ok-count) where
  abbrev rule : Outcome (List ℕ)
  rule = read_on [] (in_set (start_set c.args.start)) c.args.values.now

  front : (rule ≡ made (take c.in_ok-count.count c.read_from.new.own)) × (c.in_ok-count.count ≤ length c.read_from.new.own)
  front = own_front rule _ c.read_from.new.own _ c.in_ok-count.count refl c.in_ok-count.ensures

  long : length (take c.in_ok-count.count c.read_from.new.own) ≡ c.in_ok-count.count
  long = length-take-le c.in_ok-count.count c.read_from.new.own front.1

pub returns-then-count-eq0 : goal.returns-then-count-eq0
returns-then-count-eq0 c =
    let there = (goal.at.returns-then-count-eq0 c).In_ok-count in
    own_refused _ _ _ Sequence (decoded_empty c.args.start c.args.values.now _ (front there).0 (long there ∙ c.if-count-eq0.true))

pub returns-else-count-eq0 : goal.returns-else-count-eq0
returns-else-count-eq0 c =
    let there = (goal.at.returns-else-count-eq0 c).In_ok-count in
    own_same _ _ _ _ _ (decoded_made c.args.start c.args.values.now _ (front there).0 (omega (arith, long there, c.if-count-eq0.false)) ∙ sym (front there).0) (rw (sym (whole there)) c.in_ok-count.ensures)
