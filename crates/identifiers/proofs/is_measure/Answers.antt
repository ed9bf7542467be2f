-- `identifiers::is_measure` meets its contract: all lie from 3100 to 3165, and between these the last digit decides.
use Rattle.std.proofs.Common.{ℕ, Bool, true, false, ◌%◌, ◌≡◌, refl, sym, ap, ◌∙◌, arith}
use mathlib.Core.Bool.{◌&&◌}
use lib.Dec.{leb, ltb}
use borrow.Author.Tests.{leb-true}
use Rattle.laws.specs.First.{first_not}
use Rattle.laws.specs.Among.{place_in, among}
use Rattle.identifiers.specs.Identifiers.{measures}
use Rattle.laws.proofs.AmongLaws.{not_among_if, same_run}
use Rattle.laws.proofs.Ranges.{range_has}
use Rattle.identifiers.proofs.is_measure.Goals as goal

measures_are : (x : ℕ) → among measures x ≡ (leb 3100 x && leb x 3165 && ltb (x % 10) 6)
unfolding measures place_in first_not
measures_are x = go (leb 3100 x) refl (leb x 3165) refl
  where
    go : (a : Bool) → leb 3100 x ≡ a → (b : Bool) → leb x 3165 ≡ b → among measures x ≡ (a && b && ltb (x % 10) 6)
    go true low true high = sym (same_run (among measures) (λ (y : ℕ). ltb (y % 10) 6) 3100 66 tt x (leb-true _ _ low) (omega (arith, leb-true _ _ high)))
    go true low false high = not_among_if (λ (y : ℕ). leb y 3165) measures refl x high
    go false low b high = not_among_if (λ (y : ℕ). leb 3100 y) measures refl x low

pub returns-then-contains : goal.returns-then-contains
returns-then-contains c =
    let x = c.args.identifier in
    let within = range_has _ 3100 3165 x c.new.ensures.start c.new.ensures.end c.new.ensures.exhausted in
    sym (measures_are x ∙ ap (λ (b : Bool). b && ltb (x % 10) 6) (sym within ∙ sym c.if-contains.ensures.value))

pub returns-else-contains : goal.returns-else-contains
returns-else-contains c =
    let x = c.args.identifier in
    let within = range_has _ 3100 3165 x c.new.ensures.start c.new.ensures.end c.new.ensures.exhausted in
    c.if-contains.false ∙ sym (measures_are x ∙ ap (λ (b : Bool). b && ltb (x % 10) 6) (sym within ∙ sym c.if-contains.ensures.value))
