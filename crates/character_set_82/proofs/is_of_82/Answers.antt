-- `character_set_82::is_of_82` meets its contract by the law of its ranges; only the goal of a byte above `"` that passes no test asks for an answer.
use Rattle.std.proofs.Common.{arith}
use Rattle.character_set_82.proofs.CharacterLaws.{ranges_of_82}
use Rattle.character_set_82.proofs.is_of_82.Goals as goal

pub returns-in_default-matches-2 : goal.returns-in_default-matches-2
returns-in_default-matches-2 c = grind (arith, ranges_of_82)
