-- `answers::put_text` meets its contract: the bytes that were copied are all of the text.
use mathlib.Core.Path.{refl}
use Rattle.answers.proofs.put_text.Goals as goal

pub returns : goal.returns
returns c = record { count = refl; lent = rw c.copy_from_slice.ensures.after }
