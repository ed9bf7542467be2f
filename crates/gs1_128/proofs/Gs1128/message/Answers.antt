-- `Gs1128::message` meets its contract: what a stage refuses is passed on, and the values that were found and judged spell the message,
-- the first FNC1 and the check left out.
use Rattle.std.proofs.Common.{◌≡◌, ℕ, ◌+◌, ◌-◌, ◌*◌, List, length, drop, refl, sym, ◌∙◌, arith}
use Rattle.laws.proofs.Results.{passed_on}
use Rattle.refusal.specs.Outcome.{made}
use Rattle.refusal.proofs.FillsLaws.{refused_of_answer, made_of_answer}
use Rattle.refusal.proofs.OwnLaws.{own_refused, own_same, own_made}
use Rattle.patterns.proofs.CharacterLaws.{drawn_of_characters}
use Rattle.gs1_128.specs.Symbol.{count_of, allowed}
use Rattle.gs1_128.specs.Scanning.{values_in, judged_values}
use Rattle.gs1_128.proofs.JudgedLaws.{between_stands}
use Rattle.gs1_128.proofs.Gs1128.message.Goals.{After-judged}
use Rattle.gs1_128.proofs.Gs1128.message.Goals as goal

as_many : (widths xs : List ℕ) (n : ℕ) → length widths ≡ 6 * n + 19 → values_in widths ≡ made xs → length xs ≡ n + 1
as_many widths xs n h e =
    omega (arith, (drawn_of_characters allowed 6 (count_of widths + 1) 1 (drop 6 widths) xs e).0)

scanned : (c : After-judged) → values_in c.args.widths.now ≡ made c.values_in.new.values
scanned c =
    own_made _ _ c.values_in.new.values _ _ refl c.in_ok-values_in.ensures
    (λ xs e. as_many c.args.widths.now xs c.args.self.count c.requires.widths_len e ∙ sym c.requires.own_len)

pub returns-in_err-judged : goal.returns-in_err-judged
returns-in_err-judged c =
    let f = c.in_err-judged.field-0.0 in
    rw (passed_on _ f c.from_residual-in_err-judged.ensures.1)
    (own_refused _ _ _ f (rw (scanned (goal.at.returns-in_err-judged c).After-judged, refused_of_answer (judged_values c.args.self.start c.values_in.new.values) f c.in_err-judged.ensures)))

pub returns : goal.returns
returns c =
    let start = c.args.self.start in
    let values = c.values_in.new.values in
    let n = c.args.self.count in
    let found = scanned (goal.at.returns c).After-judged in
    let judged = made_of_answer (judged_values start values) _ c.in_ok-judged.ensures in
    let long = as_many c.args.widths.now values n c.requires.widths_len found in
    let between = between_stands start values judged.0 (n - 1) (omega (arith, c.requires.le_count)) judged.1 in
    own_same _ _ _ _ _ (rw (found, judged.1, between)) c.message_from.ensures
