-- `requests::words::named_by` meets its contract: what is left of the rows says what all of them do, and each turn passes a row.
use Rattle.std.proofs.Common.{sym, ◌∙◌, arith}
use Rattle.requests.proofs.WordLaws.{passed, found, none_left}
use Rattle.requests.proofs.words.named_by.Goals as goal

pub returns-then-equal : goal.returns-then-equal
returns-then-equal c =
    found c.args.rows.now c.loop-name.name-index _ c.args.word.now (omega arith) (sym c.equal.ensures ∙ c.if-equal.true) ∙ c.loop-name.invariant

pub loop-name-preserved : goal.loop-name-preserved
loop-name-preserved c =
    passed c.args.rows.now c.loop-name.name-index _ c.args.word.now (omega arith) (sym c.equal.ensures ∙ c.if-equal.false) ∙ c.loop-name.invariant

pub returns : goal.returns
returns c = none_left c.args.rows.now c.loop-name.name-index c.args.word.now (omega arith) ∙ c.loop-name.invariant
