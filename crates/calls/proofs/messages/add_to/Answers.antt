-- `calls::messages::add_to` meets its contract: only the buffer's length and the message in it count.
use mathlib.Core.Path.{ap, ◌∙◌}
use native.Mathlib.Omega.{arith}
use Rattle.text.proofs.PutsLaws.{puts_same}
use Rattle.answers.specs.declared.Form.TheVariants.{Bytes as AsBytes}
use Rattle.answers.specs.Lines.{list_line}
use Rattle.answers.proofs.LineLaws.{made_line_lem, made_shows}
use Rattle.calls.proofs.BufferLaws.{adds_in_buffer}
use Rattle.calls.proofs.messages.add_to.Goals as goal

pub put_made-requires : goal.put_made-requires
put_made-requires c =
    let add = c.add-answer in
    record { made = made_shows _ _ add.new.buffer AsBytes add.result add.ensures (λ list is. tt); between_in_bounds = omega (arith, add.auto.buffer, c.put_fitting.auto.out) }

pub returns : goal.returns
returns c =
    let args = c.args in
    let fitting = c.put_fitting in
    let same = adds_in_buffer args.message.now args.buffer.now fitting.new.out fitting.result fitting.ensures fitting.auto.out args.identifier args.content.now in
    puts_same _ _ _ _ _ (ap (list_line AsBytes) same ∙ made_line_lem _ _ c.add-answer.new.buffer AsBytes _ c.add-answer.result c.add-answer.ensures) c.put_made.ensures
