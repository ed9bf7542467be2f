-- `code_sets::readers::put` meets its contract: bytes that have no room are refused, and others stand at their place.
use Rattle.std.proofs.Common.{◌≡◌, ◌+◌, ◌-◌, length, take, drop, sym, append_assoc, ◌∙◌, arith}
use lib.Seq.{drop-drop, sets-eq}
use borrow.Author.Tests.{le-leb}
use Rattle.code_sets.proofs.readers.put.Goals as goal

pub returns : goal.returns
returns c =
    let n = c.args.n in
    let bytes = c.args.bytes.now in
    let text = c.args.text.now in
    let long : n + length bytes - n ≡ length bytes = omega arith in
    record {
      answer = rw (le-leb (n + length bytes) (length text) (omega arith));
      lent = λ _.
          rw (c.copy_from_slice.ensures.after, long, drop-drop)
          (sym (sets-eq bytes text n (omega arith) ∙ append_assoc (take n text) bytes (drop (n + length bytes) text)));
    }
