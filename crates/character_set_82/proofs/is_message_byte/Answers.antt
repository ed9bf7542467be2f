-- `character_set_82::is_message_byte` meets its contract: its two tests are those of the definition.
use Rattle.character_set_82.specs.Characters.{is_message_byte}
use Rattle.character_set_82.proofs.is_message_byte.Goals as goal

pub returns-then-is_of_82 : goal.returns-then-is_of_82
unfolding is_message_byte
returns-then-is_of_82 c = rw (← c.is_of_82.ensures, c.if-is_of_82.true)

pub returns-else-is_of_82 : goal.returns-else-is_of_82
unfolding is_message_byte
returns-else-is_of_82 c = rw (← c.is_of_82.ensures, c.if-is_of_82.false)
