-- Document 01, "Examples on each side": a line of answer is "0, the count of widths, the widths run together; or the refusal and its place, one
-- space apart". A list of bytes is shown as it is typed, `^` for the separator. Every line ends in byte 10.
use Rattle.std.specs.Prelude.{ℕ, ◌≤◌, List, [], ◌∷◌, ◌++◌, length, take, Result, Ok, Err}
use Rattle.laws.specs.Below.{Below}
use Rattle.refusal.specs.declared.Refusal.{Refusal}
use Rattle.refusal.specs.Outcome.{Outcome, made, refused}
use Rattle.refusal.specs.Numbers.{number_of, place_of}
use Rattle.text.specs.Decimal.{apart}
use Rattle.text.specs.Typed.{typed_of}
use Rattle.text.specs.Widths.{run_together}
use Rattle.answers.specs.declared.Form.{Form}
use Rattle.answers.specs.declared.Form.TheVariants.{Widths, Bytes}

abbrev pub shown_as : Form → List ℕ → List ℕ
shown_as Widths list = run_together list
shown_as Bytes list = typed_of list

-- what can be shown: widths have one digit each
abbrev pub Shows : Form → List ℕ → Type 0
Shows Widths list = Below 10 list
Shows Bytes list = Unit

abbrev pub numbers_line : ℕ → ℕ → List ℕ
numbers_line first second = apart first second ++ (10 ∷ [])

-- the line for what a call answered
abbrev pub answer_line : Result ℕ Refusal → List ℕ
answer_line (Ok n) = numbers_line 0 n
answer_line (Err f) = numbers_line (number_of f) (place_of f)

-- the line for a list, with some text between the count and the list
abbrev pub counted_line : Form → List ℕ → List ℕ → List ℕ
counted_line form between list = apart 0 (length list) ++ between ++ shown_as form list ++ (10 ∷ [])

-- the line for the list that a rule makes
abbrev pub line_of : Form → List ℕ → Outcome (List ℕ) → List ℕ
line_of form between (made list) = counted_line form between list
line_of form between (refused f) = answer_line (Err f)

-- with one space between, as nearly every line has it
abbrev pub list_line : Form → Outcome (List ℕ) → List ℕ
list_line form = line_of form (32 ∷ [])

-- the same for what a call answered, and left at the front of a lent list
abbrev pub made_line : Form → List ℕ → Result ℕ Refusal → List ℕ → List ℕ
made_line form between (Ok n) list = counted_line form between (take n list)
made_line form between (Err f) list = answer_line (Err f)

abbrev pub Made : Form → Result ℕ Refusal → List ℕ → Type 0
Made form (Ok n) list = (n ≤ length list) × Shows form (take n list)
Made form (Err f) list = Unit
