-- `patterns::equal` meets its contract: a search along both lists tells whether lists of one count are the same list, and so does the rule;
-- lists of different counts are not.
use Rattle.std.proofs.Common.{length, rules, tests, sym, ap, ◌∙◌}
use Rattle.std.proofs.lemmas.Bool.{ne_eqb}
use Rattle.std.proofs.lemmas.Bool.Decides.{same_from_decides}
use Rattle.std.proofs.lemmas.Iterator.{YieldsList-from_slice, YieldsList-from_zip, same_from_all}
use Rattle.std.proofs.lemmas.Slice.Eq.{compares_Decides}
use Rattle.patterns.specs.Patterns.{same}
use Rattle.patterns.proofs.PatternLaws.{differs}
use Rattle.patterns.proofs.equal.Goals as goal

pub returns-then-widths-pattern : goal.returns-then-widths-pattern
unfolding same
returns-then-widths-pattern c =
    let xs = c.args.widths.now in
    let ys = c.args.pattern.now in
    same_from_decides _ _
    (same_from_all c.all.new.self _ _ xs ys c.all.ensures.ran
    (YieldsList-from_zip (YieldsList-from_slice xs cc) (YieldsList-from_slice ys cc))
    (search rules)
    (λ x q k. search (rules, tests))
    (λ x q k. search (rules, tests)))
    (compares_Decides same (search rules) xs ys)

pub returns-else-widths-pattern : goal.returns-else-widths-pattern
returns-else-widths-pattern c =
    let other = c.if-widths-pattern.false in
    ne_eqb _ _ other ∙ sym (differs c.args.widths.now c.args.pattern.now (λ e. other (ap length e)))
