-- `spelling::starts_in_c` meets its contract: its table is the rule's.
use Rattle.std.proofs.Common.{refl}
use Rattle.spelling.specs.States.{starts_in_c}
use Rattle.spelling.proofs.starts_in_c.Goals as goal

pub returns : goal.returns
unfolding starts_in_c
returns c = rw c.from.ensures refl
