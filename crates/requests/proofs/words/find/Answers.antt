-- `requests::words::find` meets its contract: the table, computed, is the rule's.
use Rattle.std.proofs.Common.{◌∙◌}
use Rattle.requests.specs.Words.{calls}
use Rattle.requests.proofs.WordLaws.{by_rule}
use Rattle.requests.proofs.words.find.Goals as goal

pub returns : goal.returns
unfolding calls
returns c = c.named_by.ensures ∙ by_rule calls c.args.word.now
