-- `itf14::tables::pair` meets its contract: the two digits' elements, interleaved, written out one by one.
use mathlib.Core.Path.{sym, ap₂, ◌∙◌}
use mathlib.Core.List.{[]}
use native.Mathlib.Omega.{arith}
use lib.ListN.{get_or}
use Rattle.laws.proofs.Listed.{listed_whole}
use Rattle.itf14.specs.Tables.{digit_rows, interleaved}
use Rattle.itf14.proofs.PairLaws.{row_length, pair_at}
use Rattle.itf14.proofs.tables.pair.Goals as goal

pub returns : goal.returns
returns c =
    let args = c.args in
    let bars = get_or digit_rows args.first [] in
    let spaces = get_or digit_rows args.second [] in
    let five = row_length args.first (omega arith) in
    let five' = row_length args.second (omega arith) in
    ap₂ interleaved (listed_whole 5 bars five) (listed_whole 5 spaces five') ∙ sym (pair_at args.first args.second (omega arith) (omega arith))
