-- `parity::letters::in_sets` meets its contract: each value is the digit in the set of its letter.
use Rattle.std.proofs.Common.{rules, ◌≡◌, length, arith, ◌∙◌}
use Rattle.std.proofs.lemmas.Grind.{same_number_lists}
use Rattle.parity.specs.Letters.{in_sets}
use Rattle.parity.proofs.LetterLaws.{length_in_sets, in_sets_at}
use Rattle.parity.proofs.letters.in_sets.Goals as goal

pub returns : goal.returns
returns c =
    let letters = c.args.letters in
    let digits = c.args.digits.now in
    let six : length (in_sets letters digits) ≡ 6 = length_in_sets letters digits (omega arith) ∙ c.requires.digits_len in
    same_number_lists _ _ (omega arith) (λ k h. let called = c.from_fn.ensures.items.at k 0 (omega arith) in rw (in_sets_at letters digits k (omega arith) (omega arith)) (search rules))
