-- `requests::request_of` meets its contract: the tests are the rule's own, on the first word.
use mathlib.Core.Path.{◌∙◌}
use borrow.Author.Tests.{eq-eqb}
use Rattle.requests.specs.Requests.{request_of}
use Rattle.requests.proofs.RequestLaws.{call_asked, places_missing, room_asked}
use Rattle.requests.proofs.request_of.Goals.{After-equal}
use Rattle.requests.proofs.request_of.Goals as goal

-- the code turns the test round
pub returns-then-line-eq0 : goal.returns-then-line-eq0
unfolding request_of
returns-then-line-eq0 c =
    record { value = rw (eq-eqb _ 0 c.if-line-eq0.true); within = tt }

pub returns-then-not-equal : goal.returns-then-not-equal
returns-then-not-equal c =
    let line = c.args.line.now in
    record { value = c.call_at.ensures.value ∙ call_asked line _ c.word_end-end.ensures.value c.if-line-eq0.false c.equal.ensures c.if-not-equal.true; within = c.call_at.ensures.within }

pub returns-then-end-line : goal.returns-then-end-line
returns-then-end-line c =
    let line = c.args.line.now in
    record { value = places_missing line _ c.word_end-end.ensures.value c.if-line-eq0.false c.equal.ensures c.if-not-equal.false c.if-end-line.true; within = tt }

pub returns : goal.returns
returns c =
    let line = c.args.line.now in
    record { value = c.in_room.ensures.value ∙ room_asked line _ c.word_end-end.ensures.value c.if-line-eq0.false c.equal.ensures c.if-not-equal.false c.if-end-line.false; within = c.in_room.ensures.within }
