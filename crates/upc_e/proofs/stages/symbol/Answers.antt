-- `upc_e::stages::symbol` meets its contract: the values are those of the check digit's row, drawn after the guard, and the end guard fills what
-- is left.
use Prim.Native.Nat.{ℕ}
use mathlib.Core.Path.{◌≡◌, ap, ap₂, ◌∙◌}
use mathlib.Core.List.{List, ◌++◌}
use native.Mathlib.Omega.{arith}
use lib.ListN.{length, take, drop, replicate, length-append}
use Rattle.laws.specs.Below.{Below}
use Rattle.laws.proofs.Parts.{put, last_part}
use Rattle.patterns.specs.Patterns.{drawn}
use Rattle.parity.specs.Letters.{in_sets}
use Rattle.parity.proofs.RowLaws as Row
use Rattle.ean_upc.specs.declared.tables.Sets.TheVariants.{AOrB}
use Rattle.ean_upc.specs.Tables.{guard}
use Rattle.ean_upc.specs.Halves.{patterns_of}
use Rattle.ean_upc.proofs.SetLaws.{length_of_half}
use Rattle.upc_e.specs.UpcE.{end_guard, symbol}
use Rattle.upc_e.proofs.SymbolLaws.{printed}
use Rattle.upc_e.proofs.stages.symbol.Goals.{After-in_sets-values}
use Rattle.upc_e.proofs.stages.symbol.Goals as goal

pub in_sets-values-requires : goal.in_sets-values-requires
in_sets-values-requires c =
    let short = c.args.short.now in
    let digits = printed short c.told-short c.requires in
    record { below = rw (c.row_of-row.ensures, c.from.ensures) (Row.letters_below digits); digits_len = digits.six; below_2 = digits.below }

values_are : (c : After-in_sets-values) → c.in_sets-values.result ≡ (Row.values (printed c.args.short.now c.told-short c.requires))
values_are c =
    let short = c.args.short.now in
    c.in_sets-values.ensures ∙ ap (λ (letters : List ℕ). in_sets letters (take 6 short)) (rw c.from.ensures at c.row_of-row.ensures)

pub guarded_half-requires : goal.guarded_half-requires
guarded_half-requires c =
    let digits = printed c.args.short.now c.told-short c.requires in
    rw (values_are (goal.at.guarded_half-requires c).After-in_sets-values) record { to_len = omega (arith, Row.six_values digits); below = Row.values_below digits }

length-begun : (values : List ℕ) → length values ≡ 6 → Below 20 values → length (guard ++ drawn (patterns_of AOrB) values) ≡ 27
length-begun values six below =
    length-append guard (drawn (patterns_of AOrB) values) ∙ omega (arith, length_of_half AOrB values below)

pub returns : goal.returns
unfolding symbol
returns c =
    let digits = printed c.args.short.now c.told-short c.requires in
    let values = Row.values digits in
    let begun = guard ++ drawn (patterns_of AOrB) values in
    let begun-is : c.guarded_half.new.to ≡ begun = c.guarded_half.ensures ∙ ap (λ (vs : List ℕ). guard ++ drawn (patterns_of AOrB) vs) (values_are (goal.at.returns c).After-in_sets-values) in
    let long : length begun ≡ 27 = length-begun values (Row.six_values digits) (Row.values_below digits) in
    let blank : List ℕ = replicate 33 0 in
    let whole : length (begun ++ drop 27 blank) ≡ 33 = simp length-append (omega arith) in
    ap₂ (λ (front end : List ℕ). put 27 33 (front ++ drop 27 blank) end) begun-is c.copy_from_slice.ensures.after
    ∙ rw whole at (last_part blank begun end_guard 27 long)
