-- `calls::records::split` meets its contract: the records stand at the front of the twelve, which are as good as any more.
use Prim.Native.Nat.{◌≤◌}
use mathlib.Core.Path.{◌≡◌, sym, ap, ◌∙◌}
use native.Mathlib.Omega.{arith}
use lib.ListN.{take, length-take}
use Rattle.refusal.specs.Outcome.{made}
use Rattle.answers.specs.Lines.{answer_line}
use Rattle.splitting.specs.Splitting.{splits}
use Rattle.text.proofs.PutsLaws.{puts_same}
use Rattle.calls.specs.Answers.{split_line}
use Rattle.calls.proofs.RecordLaws.{split_front, split_refused}
use Rattle.calls.proofs.records.split.Goals.{In-Ok}
use Rattle.calls.proofs.records.split.Goals as goal

pub returns-in_default : goal.returns-in_default
returns-in_default c =
    let split = c.split_twelve-split in
    puts_same _ _ _ _ _ (ap split_line (split_refused _ _ _ _ _ split.ensures c.in_default.field-0 c.in_default.is) ∙ sym (ap answer_line c.in_default.is)) c.put_answer.ensures

front : (c : In-Ok) → (splits c.args.message.now c.args.places ≡ made (take c.in-Ok.count c.split_twelve-split.result.records)) × (c.in-Ok.count ≤ 12)
front c =
    let n = c.in-Ok.count in
    split_front _ _ _ _ _ c.split_twelve-split.ensures n c.in-Ok.is

pub put_records-requires : goal.put_records-requires
put_records-requires c =
    record { records_len_bound = rw length-take (omega (arith, (front (goal.at.put_records-requires c).In-Ok).1)); in_bounds = c.requires }

pub returns : goal.returns
returns c =
    puts_same _ _ _ _ _ (ap split_line (front (goal.at.returns c).In-Ok).0) c.put_records.ensures
