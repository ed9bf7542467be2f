-- `requests::identifier_in` meets its contract: the tests are the rule's own, on the first word.
use mathlib.Core.Path.{sym, ◌∙◌}
use native.Mathlib.Omega.{arith}
use Rattle.requests.proofs.LeadingLaws.{none_leads, leads_alone, leads_on}
use Rattle.requests.proofs.identifier_in.Goals as goal

pub returns-in_default : goal.returns-in_default
returns-in_default c =
    let typed = c.args.typed.now in
    record { value = none_leads typed _ c.word_end-end.ensures.value _ (sym c.in_default.is ∙ c.capped_in.ensures); leads_within = tt }

pub returns-then-end-typed : goal.returns-then-end-typed
returns-then-end-typed c =
    let typed = c.args.typed.now in
    record { value = leads_alone typed _ c.word_end-end.ensures.value _ (sym c.in-Some.is ∙ c.capped_in.ensures) c.if-end-typed.true; leads_within = tt }

pub returns : goal.returns
returns c =
    let typed = c.args.typed.now in
    record { value = leads_on typed _ c.word_end-end.ensures.value _ (sym c.in-Some.is ∙ c.capped_in.ensures) c.if-end-typed.false; leads_within = omega arith }
