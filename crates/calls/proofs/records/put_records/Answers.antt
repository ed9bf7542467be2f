-- `calls::records::put_records` meets its contract: after i turns i records stand after what stood at the front, 63 bytes each at the most.
use Rattle.std.proofs.Common.{arith}
use mathlib.Core.List.{append-nil}
use Rattle.text.proofs.PutsLaws.{puts_same, puts_more, puts_then}
use Rattle.calls.proofs.RecordLaws.{texts_more, texts_all}
use Rattle.calls.proofs.records.put_records.Goals as goal

pub loop-record-init : goal.loop-record-init
loop-record-init c =
    (c.put_pair-at.ensures.upper_bound, λ front before p. puts_same _ _ _ _ _ (append-nil front) p)

pub loop-record-preserved : goal.loop-record-preserved
loop-record-preserved c =
    let put = c.put_record-at in
    let loop = c.loop-record in (
      omega (arith, put.ensures.upper_bound),
      λ front before p. puts_same _ _ _ _ _ (texts_more front c.args.records.now loop.record-index _ c.loop-record-test.true)
          (puts_then _ _ _ _ _ _ _ (loop.invariant.1 front before p) put.ensures.puts),
    )

pub returns : goal.returns
returns c =
    let whole = texts_all c.args.records.now c.loop-record.record-index (omega arith) in
    puts_more _ _ _ _ 10 (omega arith) (puts_same _ _ _ _ _ whole (c.loop-record.invariant.1 _ _ c.put_pair-at.ensures.puts))
