-- ITF-14's scan meets its contract: what fills the list is what was made.
use Rattle.std.proofs.Common.{sym, ap}
use Rattle.laws.proofs.Results.{passed_on}
use Rattle.refusal.specs.Fills.{answered}
use Rattle.refusal.proofs.FillsLaws.{refused_of_answer}
use Rattle.refusal.proofs.OwnLaws.{own_made}
use Rattle.itf14.specs.Itf14.{scanned}
use Rattle.itf14.proofs.SymbolLaws.{symbol_of_scan}
use Rattle.itf14.proofs.Itf14NumberedItf14DIGITSItf14WIDTHS.scan.Goals as goal

pub returns-in_err-digits_in : goal.returns-in_err-digits_in
returns-in_err-digits_in c =
    let f = c.in_err-digits_in.field-0.0 in
    rw (passed_on _ f c.from_residual.ensures.1)
    (record { value = sym (ap answered (refused_of_answer (scanned c.args.widths.now) f c.in_err-digits_in.ensures.answer)); below = tt })

pub returns : goal.returns
returns c =
    let widths = c.args.widths.now in
    let digits = own_made (scanned widths) _ c.digits_in.new.digits _ _ c.in_ok-digits_in.was c.digits_in.ensures (λ ds e. (symbol_of_scan widths ds e).1) in
    record { value = sym (ap answered digits); below = (symbol_of_scan widths _ digits).2 }
