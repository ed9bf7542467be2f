-- `identifiers::contents::is_digits` meets its contract: every byte is a digit exactly where the first that is none lies past the end.
use Rattle.std.proofs.Common.{rules}
use Rattle.laws.proofs.FirstLaws.{all_met}
use Rattle.digits.specs.Digit.{is_digit}
use Rattle.identifiers.proofs.contents.is_digits.Goals as goal

pub returns : goal.returns
returns c = all_met is_digit c.args.bytes.now 0 c.all.result (search rules) (search rules)
