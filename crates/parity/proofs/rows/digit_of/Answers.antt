-- `parity::rows::digit_of` meets its contract: the candidate is the digit where its row equals the letters, and else there is none.
use Prim.Native.Nat.{ℕ}
use mathlib.Core.Path.{◌≡◌, ap, sym, ◌∙◌}
use mathlib.Core.List.{List, []}
use lib.ListN.{get_or}
use Rattle.patterns.specs.Matching.{match_in, Candidate}
use Rattle.patterns.proofs.PatternLaws.{same_true, same_false}
use Rattle.patterns.proofs.MatchLaws.{match_found, match_none}
use Rattle.parity.specs.declared.rows.Rows.{Rows}
use Rattle.parity.specs.declared.rows.Rows.TheVariants.{FirstDigit, CheckDigit}
use Rattle.parity.specs.Rows.{by_first_digit, by_check_digit, rows_of}
use Rattle.parity.proofs.RowLaws.{ten_rows, distinct_rows}
use Rattle.parity.proofs.rows.digit_of.Goals as goal

candidate_in : (rows : Rows) (letters : List ℕ) (digit : ℕ) → Candidate by_first_digit letters digit × Candidate by_check_digit letters digit → Candidate (rows_of rows) letters digit
candidate_in FirstDigit letters digit candidates = candidates.0
candidate_in CheckDigit letters digit candidates = candidates.1

pub returns-then-equal : goal.returns-then-equal
returns-then-equal c =
    let rows = c.args.rows in
    let digit = c.candidate-digit.result in
    let letters = c.letters_of-letters.result in
    let is : get_or (rows_of rows) digit [] ≡ letters =
    sym (rw c.from.ensures at c.row_of-row.ensures) ∙ same_true _ letters (sym c.equal.ensures ∙ c.if-equal.true) in
    match_found (rows_of rows) letters digit (distinct_rows rows) (rw (ten_rows rows) c.candidate-digit.ensures.upper_bound) is
    ∙ ap (match_in (rows_of rows)) c.letters_of-letters.ensures

pub returns-else-equal : goal.returns-else-equal
returns-else-equal c =
    let rows = c.args.rows in
    let letters = c.letters_of-letters.result in
    let digit = c.candidate-digit.result in
    match_none (rows_of rows) letters digit (candidate_in rows letters digit (c.candidate-digit.ensures.candidate, c.candidate-digit.ensures.candidate_2))
    (λ h is. same_false _ letters (sym c.equal.ensures ∙ c.if-equal.false) (c.row_of-row.ensures ∙ rw c.from.ensures is))
    ∙ ap (match_in (rows_of rows)) c.letters_of-letters.ensures
