-- `requests::faults::put_help` meets its contract: the text is the line that the table of words makes.
use Rattle.requests.specs.Words.{calls}
use Rattle.requests.specs.Texts.{help_line}
use Rattle.requests.proofs.faults.put_help.Goals as goal

pub returns : goal.returns
unfolding help_line calls
returns c =
    c.put_text.ensures
