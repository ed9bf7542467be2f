-- `text::number_in` meets its contract: a numeral that was cut to one more than it may say is too large exactly where it is that number.
use Rattle.std.proofs.Common.{◌≡◌, ℕ, ◌+◌, List, Option, sym, ap, ◌∙◌, le-leb, arith}
use borrow.Author.Tests.{lt-leb}
use Rattle.text.specs.Numeral.{number_in, capped_in}
use Rattle.text.proofs.NumeralLaws.{uncut, number_of_capped}
use Rattle.text.proofs.number_in.Goals as goal

-- the rule, by what the cut numeral was found to say
says : (bytes : List ℕ) (most : ℕ) (found : Option ℕ) → found ≡ capped_in bytes (most + 1) → number_in bytes most ≡ uncut most found
says bytes most found is = number_of_capped bytes most ∙ ap (uncut most) (sym is)

pub returns-in_err-value : goal.returns-in_err-value
returns-in_err-value c =
    c.from_residual.ensures ∙ sym (says _ _ _ c.in_err-value.ensures)

pub returns-then-most-value : goal.returns-then-most-value
returns-then-most-value c =
    simp (lt-leb c.in_ok-value.value c.args.most (omega arith)) at (sym (says _ _ _ c.in_ok-value.ensures))

pub returns-else-most-value : goal.returns-else-most-value
returns-else-most-value c =
    simp (le-leb c.in_ok-value.value c.args.most (omega arith)) at (sym (says _ _ _ c.in_ok-value.ensures))
