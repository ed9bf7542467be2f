-- `requests::in_room` meets its contract: the number of places is what the rule reads, and is at most 700.
use mathlib.Core.Path.{sym, ◌∙◌}
use native.Mathlib.Omega.{arith}
use Rattle.text.proofs.NumeralLaws.{number_within}
use Rattle.requests.proofs.RequestLaws.{none_roomed, room_alone, room_made}
use Rattle.requests.proofs.in_room.Goals as goal

pub returns-in_default : goal.returns-in_default
returns-in_default c =
    let line = c.args.line.now in
    record { value = none_roomed line _ _ c.word_end-end.ensures.value (sym c.in_default.is ∙ c.number_in.ensures); within = tt }

pub returns-then-end-line : goal.returns-then-end-line
returns-then-end-line c =
    let line = c.args.line.now in
    record { value = room_alone line _ _ c.word_end-end.ensures.value (sym c.in-Some.is ∙ c.number_in.ensures) c.if-end-line.true; within = tt }

pub call_at-requires : goal.call_at-requires
call_at-requires c =
    record { from_in_bounds = omega arith; room_bound = number_within _ 700 _ (sym c.in-Some.is ∙ c.number_in.ensures) }

pub returns : goal.returns
returns c =
    let line = c.args.line.now in
    let made = room_made line _ _ c.word_end-end.ensures.value (sym c.in-Some.is ∙ c.number_in.ensures) c.if-end-line.false in
    record { value = c.call_at.ensures.value ∙ made; within = c.call_at.ensures.within }

pub word_end-end-requires : goal.word_end-end-requires
word_end-end-requires c =
    c.requires
