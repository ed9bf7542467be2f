-- `upc_e::condensing::is_own` meets its contract: the digits are condensed to nothing, or to what is compared.
use Rattle.std.proofs.Common.{◌≡◌, ◌∙◌, sym, ap, refl, ℕ, Bool, true, false, nat_eq, List}
use lib.Pointwise.{pointwise}
use Rattle.std.specs.Cmp.Lexicographic.{same_text, other_text}
use Rattle.refusal.proofs.FillsLaws.{refused_of_answered, made_of_answered}
use Rattle.patterns.specs.Patterns.{same}
use Rattle.patterns.proofs.PatternLaws.{same_refl, differs}
use Rattle.upc_e.specs.Condensing.{condensed, is_own}
use Rattle.upc_e.proofs.condensing.is_own.Goals as goal

-- what a comparison has told
told : (xs ys : List ℕ) (b : Bool) → b ≡ pointwise nat_eq xs ys → b ≡ same xs ys
told xs ys true e = rw (same_text xs ys e) (sym (same_refl ys))
told xs ys false e = sym (differs xs ys (other_text xs ys e))

pub returns-in-Ok : goal.returns-in-Ok
unfolding is_own
returns-in-Ok c =
    rw (sym (ap condensed c.requires) ∙ made_of_answered _ _ c.in-Ok.ensures) (told c.in-Ok.own c.args.short.now _ c.eq.ensures)

pub returns-in-Err : goal.returns-in-Err
unfolding is_own
returns-in-Err c = rw (sym (ap condensed c.requires) ∙ refused_of_answered _ _ c.in-Err.ensures) refl
