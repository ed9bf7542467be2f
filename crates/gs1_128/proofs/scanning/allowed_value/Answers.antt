-- `scanning::allowed_value` meets its contract: the matcher finds values in the whole table, and those below 103 are the allowed ones.
use Rattle.std.proofs.Common.{◌∙◌, arith}
use Rattle.patterns.proofs.MatchLaws.{value_of_match, value_of_nothing}
use Rattle.code128.specs.Characters.{patterns}
use Rattle.code128.proofs.PatternLaws.{patterns_are}
use Rattle.gs1_128.proofs.TableLaws.{allowed_found, allowed_missing}
use Rattle.gs1_128.proofs.scanning.allowed_value.Goals as goal

pub returns-in_err-value : goal.returns-in_err-value
returns-in_err-value c =
    let part = c.args.part.now in
    c.from_residual.ensures ∙ allowed_missing part (omega (arith, value_of_nothing patterns part c.in_err-value.ensures, patterns_are))

pub returns-then-value-ge-LEAST_START : goal.returns-then-value-ge-LEAST_START
returns-then-value-ge-LEAST_START c =
    let part = c.args.part.now in
    let found = value_of_match patterns part c.in_ok-value.value c.in_ok-value.ensures in
    allowed_missing part (omega (arith, found.0))

pub returns-else-value-ge-LEAST_START : goal.returns-else-value-ge-LEAST_START
returns-else-value-ge-LEAST_START c =
    let part = c.args.part.now in
    let value = c.in_ok-value.value in
    allowed_found part value (value_of_match patterns part value c.in_ok-value.ensures).0 c.if-value-ge-LEAST_START.false
