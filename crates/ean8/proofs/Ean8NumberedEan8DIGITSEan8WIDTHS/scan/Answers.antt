-- EAN-8's scan meets its contract: the values of the halves are the digits.
use Rattle.std.proofs.Common.{sym, ap}
use Rattle.laws.proofs.Results.{passed_on}
use Rattle.refusal.specs.Fills.{answered}
use Rattle.refusal.proofs.FillsLaws.{refused_of_answer}
use Rattle.refusal.proofs.OwnLaws.{own_made}
use Rattle.ean8.specs.Ean8.{scanned}
use Rattle.ean8.proofs.SymbolLaws.{symbol_of_scan}
use Rattle.ean8.proofs.Ean8NumberedEan8DIGITSEan8WIDTHS.scan.Goals as goal

pub returns-in_err-halves : goal.returns-in_err-halves
unfolding scanned
returns-in_err-halves c =
    let f = c.in_err-halves.field-0.0 in
    rw (passed_on _ f c.from_residual.ensures.1)
    (record { value = sym (ap answered (refused_of_answer (scanned c.args.widths.now) f c.in_err-halves.ensures.answer)); below = tt })

pub returns : goal.returns
unfolding scanned
returns c =
    let widths = c.args.widths.now in
    let digits = own_made (scanned widths) _ c.halves.new.values _ _ c.in_ok-halves.was c.halves.ensures (λ ds e. (symbol_of_scan widths ds e).1) in
    record { value = sym (ap answered digits); below = (symbol_of_scan widths _ digits).2 }
