-- `answers::put_made` meets its contract: what was made stands at the front of the list.
use Rattle.std.specs.Prelude.{ℕ, Result, Ok}
use mathlib.Core.Path.{sym, ap, subst, ◌∙◌}
use native.Mathlib.Omega.{arith}
use lib.ListN.{length-take}
use lib.Seq.{length-take-le}
use Rattle.refusal.specs.declared.Refusal.{Refusal}
use Rattle.text.proofs.PutsLaws.{puts_same}
use Rattle.answers.specs.Lines.{Made, answer_line, made_line}
use Rattle.answers.proofs.put_made.Goals.{In-Ok}
use Rattle.answers.proofs.put_made.Goals as goal

pub returns-in_default : goal.returns-in_default
returns-in_default c =
    let told = c.in_default.is in
    let args = c.args in
    let line = ap (λ (answer : Result ℕ Refusal). made_line args.form args.between.now answer args.list.now) told in
    puts_same _ _ _ _ _ (line ∙ sym (ap answer_line told)) c.put_answer.ensures

front : (c : In-Ok) → Made c.args.form (Ok c.in-Ok.n) c.args.list.now
front c =
    subst (λ (answer : Result ℕ Refusal). Made c.args.form answer c.args.list.now) c.in-Ok.is c.requires.made

pub put_counted-requires : goal.put_counted-requires
put_counted-requires c =
    let there = (goal.at.put_counted-requires c).In-Ok in
    record { shows = (front there).1; between_in_bounds = rw length-take (omega (arith, (front there).0)) }

pub returns : goal.returns
returns c =
    puts_same _ _ _ _ _ (ap (λ (answer : Result ℕ Refusal). made_line c.args.form c.args.between.now answer c.args.list.now) c.in-Ok.is) c.put_counted.ensures

pub slice_bounds-put_counted-end : goal.slice_bounds-put_counted-end
slice_bounds-put_counted-end c =
    sym (length-take-le _ _ (front (goal.at.slice_bounds-put_counted-end c).In-Ok).0)
