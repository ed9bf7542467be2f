-- `answer` of `bench::line::Bench` meets its contract: the message is the line's whole message, or its first 49 bytes, which are refused as the
-- whole is; 313 places are as good as 619; and what the writer left is what its rule makes, widths of one digit each.
use Rattle.std.proofs.Common.{ℕ, ◌≡◌, List, take, sym, ap, ◌∙◌, arith}
use Rattle.text.specs.Typed.{message_of}
use Rattle.text.proofs.PutsLaws.{puts_front, puts_same}
use Rattle.answers.specs.declared.Form.TheVariants.{Widths as AsWidths}
use Rattle.answers.specs.Lines.{list_line}
use Rattle.answers.proofs.LineLaws.{made_line_lem, made_shows}
use Rattle.gs1_128.specs.Rules.{writes}
use Rattle.gs1_128.proofs.ComesBack.{widths_below}
use Rattle.bench.specs.Line.{answers}
use Rattle.bench.proofs.WrittenLaws.{written_cut, in_any_room}
use Rattle.bench.proofs.line.BenchAnswerer.answer.Goals as goal

pub put_made-requires-clause-made : goal.put_made-requires-clause-made
put_made-requires-clause-made c =
    let answer = c.write-answer in
    made_shows _ _ answer.new.widths AsWidths answer.result answer.ensures (λ widths made. widths_below _ widths 313 made)

pub returns : goal.returns
unfolding answers
returns c =
    let message = message_of c.args.line.now in
    let put = c.message_in-end in
    let answer = c.write-answer in
    let cut : take put.result put.new.message ≡ take 49 message = puts_front _ _ _ _ put.ensures.puts in
    let same = ap (λ (m : List ℕ). writes m 313) cut ∙ written_cut message 313 ∙ in_any_room message 313 619 (omega arith) (omega arith) in
    puts_same _ _ _ _ _ (ap (list_line AsWidths) (sym same) ∙ made_line_lem _ _ _ AsWidths _ answer.result answer.ensures) c.put_made.ensures
