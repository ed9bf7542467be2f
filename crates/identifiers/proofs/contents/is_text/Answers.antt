-- `identifiers::contents::is_text` meets its contract: every byte is one of the 82 exactly where the first that is none lies past the end.
use Rattle.std.proofs.Common.{rules}
use Rattle.laws.proofs.FirstLaws.{all_met}
use Rattle.character_set_82.specs.Characters.{is_of82}
use Rattle.identifiers.proofs.contents.is_text.Goals as goal

pub returns : goal.returns
returns c = all_met is_of82 c.args.bytes.now 0 c.all.result (search rules) (search rules)
