-- `answers::put_list` meets its contract: each form has its own function, and there is room for the whole list.
use mathlib.Core.Path.{sym, ap, subst, ◌∙◌}
use native.Mathlib.Omega.{arith}
use lib.ListN.{length, length-map}
use lib.Seq.{take_all}
use Rattle.text.specs.Typed.{typed_of}
use Rattle.text.proofs.PutsLaws.{puts_same}
use Rattle.answers.specs.declared.Form.{Form}
use Rattle.answers.specs.Lines.{shown_as, Shows}
use Rattle.answers.proofs.put_list.Goals as goal

pub put_widths-requires : goal.put_widths-requires
put_widths-requires c =
    record { below = subst (λ (form : Form). Shows form c.args.list.now) c.in-Widths.is c.requires.shows; widths_in_bounds = omega arith }

pub returns-in-Widths : goal.returns-in-Widths
returns-in-Widths c =
    let told = c.in-Widths.is in
    let list = c.args.list.now in
    record { puts = puts_same _ _ _ _ _ (ap (λ (form : Form). shown_as form list) told) c.put_widths.ensures.puts; value = c.put_widths.ensures.value }

pub returns-in-Bytes : goal.returns-in-Bytes
returns-in-Bytes c =
    let told = c.in-Bytes.is in
    let args = c.args in
    let list = args.list.now in
    let out = args.out.now in
    let fits = take_all (length out) (typed_of list) (rw length-map (omega arith)) in
    record { puts = puts_same _ _ _ _ _ (ap (λ (form : Form). shown_as form list) told ∙ sym fits) c.put_message.ensures.puts; value = omega (arith, c.put_message.ensures.value) }
