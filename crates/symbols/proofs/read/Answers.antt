-- `symbols::read` meets its promise: where the list is named, what its kind's reader promises, with the kind beside the count; else the
-- refusal of the naming.
use Rattle.std.proofs.Common.{◌≡◌, length}
use Rattle.laws.proofs.Results.{passed_on}
use Rattle.refusal.specs.Outcome.{made}
use Rattle.refusal.proofs.FillsLaws.{refused_of_answered, made_of_answered}
use Rattle.symbols.specs.Kinds.{kind_of}
use Rattle.symbols.proofs.ReadingLaws.{named_refused, read_refused, read_made}
use Rattle.symbols.proofs.read.Goals.{After-read_as}
use Rattle.symbols.proofs.read.Goals as goal

pub returns-in_err-kind : goal.returns-in_err-kind
returns-in_err-kind c =
    let f = c.in_err-kind.field-0.0 in
    rw (passed_on _ f c.from_residual.ensures.1)
    (named_refused c.args.widths.now (length c.args.bytes.now) c.args.bytes.now f (refused_of_answered _ f c.in_err-kind.ensures))

named : (c : After-read_as) → kind_of c.args.widths.now ≡ made c.in_ok-kind.kind
named c = made_of_answered _ c.in_ok-kind.kind c.in_ok-kind.ensures

pub returns-in_err-count : goal.returns-in_err-count
returns-in_err-count c =
    let f = c.in_err-count.field-0.0 in
    rw (passed_on _ f c.from_residual-in_err-count.ensures.1)
    (read_refused _ _ _ c.in_ok-kind.kind (named (goal.at.returns-in_err-count c).After-read_as) _ f c.in_err-count.ensures)

pub returns : goal.returns
returns c = read_made _ _ _ c.in_ok-kind.kind (named (goal.at.returns c).After-read_as) _ c.in_ok-count.count c.in_ok-count.ensures
