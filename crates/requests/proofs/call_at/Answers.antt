-- `requests::call_at` meets its contract: the tests are the rule's own, on the word that ends where the code says.
use mathlib.Core.Path.{sym, ◌∙◌}
use native.Mathlib.Omega.{arith}
use Rattle.requests.proofs.RequestLaws.{help_called, none_called, call_alone, call_made, places_within}
use Rattle.requests.proofs.WordLaws.{usual_fits}
use Rattle.requests.proofs.call_at.Goals as goal

pub returns-then-equal : goal.returns-then-equal
returns-then-equal c =
    let line = c.args.line.now in
    record { value = help_called line _ _ c.word_end-end.ensures.value _ c.equal.ensures c.if-equal.true; within = tt }

pub returns-in_default : goal.returns-in_default
returns-in_default c =
    let line = c.args.line.now in
    record { value = none_called line _ _ c.word_end-end.ensures.value _ c.equal.ensures c.if-equal.false (sym c.in_default.is ∙ c.find.ensures); within = tt }

pub returns-then-end-line : goal.returns-then-end-line
returns-then-end-line c =
    let line = c.args.line.now in
    record { value = call_alone line _ _ c.word_end-end.ensures.value _ c.equal.ensures c.if-equal.false (sym c.in-Some.is ∙ c.find.ensures) c.if-end-line.true; within = tt }

pub returns : goal.returns
returns c =
    let line = c.args.line.now in
    let names = sym c.in-Some.is ∙ c.find.ensures in
    record { value = rw c.unwrap_or.ensures (call_made line _ _ c.word_end-end.ensures.value _ c.equal.ensures c.if-equal.false names c.if-end-line.false); within = (rw c.unwrap_or.ensures (places_within c.args.room _ c.requires.room_bound (usual_fits _ _ names)), omega arith) }
