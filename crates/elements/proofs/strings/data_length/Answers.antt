-- `elements::strings::data_length` meets its contract: the tests are those of the definition.
use Rattle.std.proofs.Common.{ℕ, not, sym, ◌∙◌, rules}
use lib.Dec.{eqb}
use Rattle.laws.proofs.FirstLaws.{first_met}
use Rattle.character_set_82.specs.Characters.{separator, to_separator}
use Rattle.elements.proofs.StringLaws.{data_to_separator, data_of_predefined}
use Rattle.elements.proofs.strings.data_length.Goals as goal

pub returns-then-kind : goal.returns-then-kind
returns-then-kind c =
    c.min.ensures ∙ sym (data_of_predefined c.args.kind c.args.bytes.now c.if-kind.true)

pub returns-else-kind : goal.returns-else-kind
unfolding to_separator
returns-else-kind c =
    c.unwrap_or.ensures
    ∙ first_met (λ (byte : ℕ). not (eqb byte separator)) c.args.bytes.now 0 c.position.result (search rules)
    ∙ sym (data_to_separator c.args.kind c.args.bytes.now c.if-kind.false)
