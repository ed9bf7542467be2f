-- `upc_e::stages::values_in` meets its contract: the tests that led to each `return` are the rule's lines, and the characters are a half's.
use Prim.Native.Nat.{ℕ, ◌-◌}
use mathlib.Core.Path.{◌≡◌, sym, ap, ap₂, ◌∙◌}
use mathlib.Core.Bool.{true}
use mathlib.Core.List.{List}
use native.Mathlib.Omega.{arith}
use lib.ListN.{length, take, drop, length-drop}
use lib.Seq.{take_all}
use borrow.Author.Tests.{eq-eqb, ne_eqb}
use Rattle.refusal.specs.declared.Refusal.TheVariants.{Count, Guard}
use Rattle.refusal.proofs.OwnLaws.{own_refused, own_same}
use Rattle.patterns.specs.Patterns.{same, characters}
use Rattle.patterns.specs.Between.{between}
use Rattle.ean_upc.specs.declared.tables.Sets.TheVariants.{AOrB}
use Rattle.ean_upc.specs.Tables.{guard}
use Rattle.ean_upc.specs.Halves.{patterns_of}
use Rattle.upc_e.specs.UpcE.{end_guard, values_in}
use Rattle.upc_e.proofs.stages.values_in.Goals as goal

pub returns-then-widths-ne-WIDTHS : goal.returns-then-widths-ne-WIDTHS
unfolding between
returns-then-widths-ne-WIDTHS c =
    own_refused _ _ _ Count (rw (ne_eqb _ _ c.if-widths-ne-WIDTHS.true))

pub returns-then-not-equal : goal.returns-then-not-equal
unfolding between
returns-then-not-equal c =
    own_refused _ _ _ Guard (rw (eq-eqb _ _ c.if-widths-ne-WIDTHS.false, sym c.equal.ensures ∙ c.if-not-equal.true))

-- from a place to the end of the list
onward : (widths : List ℕ) (at : ℕ) → take (length widths - at) (drop at widths) ≡ drop at widths
onward widths at = take_all (length widths - at) (drop at widths) (rw length-drop (omega arith))

pub returns-then-not-equal-2 : goal.returns-then-not-equal-2
unfolding between
returns-then-not-equal-2 c =
    let ends = sym (c.equal-2.ensures ∙ ap (λ (part : List ℕ). same part end_guard) (onward c.args.widths.now 27)) ∙ c.if-not-equal-2.true in
    own_refused _ _ _ Guard (rw (eq-eqb _ _ c.if-widths-ne-WIDTHS.false, sym c.equal.ensures ∙ c.if-not-equal.false, ends))

-- where both have passed, the characters are left to scan
scanning : (widths : List ℕ) → length widths ≡ 33 → same (take 3 widths) guard ≡ true → same (drop 27 widths) end_guard ≡ true → values_in widths ≡ characters (patterns_of AOrB) 4 6 0 (drop 3 widths)
unfolding between
scanning widths counted starts ends = rw (eq-eqb _ _ counted, starts, ends)

pub returns : goal.returns
returns c =
    let widths = c.args.widths.now in
    let ends = sym (c.equal-2.ensures ∙ ap (λ (part : List ℕ). same part end_guard) (onward widths 27)) ∙ c.if-not-equal-2.false in
    let is = scanning widths c.if-widths-ne-WIDTHS.false (sym c.equal.ensures ∙ c.if-not-equal.false) ends in
    own_same _ _ _ _ _ (is ∙ sym (ap₂ (λ (n : ℕ) (part : List ℕ). characters (patterns_of AOrB) 4 n 0 part) c.told-values (onward widths 3))) c.half.ensures
