-- `digits::first_other` meets its contract: the search finds the first byte that is no digit.
use Rattle.std.proofs.Common.{rules, ◌∙◌}
use Rattle.laws.proofs.FirstLaws.{first_met}
use Rattle.digits.specs.Digit.{is_digit}
use Rattle.digits.proofs.first_other.Goals as goal

pub returns : goal.returns
returns c = c.unwrap_or.ensures ∙ first_met is_digit c.args.bytes.now 0 c.position.result (search rules)
