-- Document 01, "Examples on each side": "The bench program reads lines from standard input, a message each, ^ for byte 29." It "prints per
-- line: 0, the count of widths, the widths run together; or the refusal and its place, one space apart."
use Rattle.std.specs.Prelude.{ℕ, List}
use Rattle.text.specs.Typed.{message_of}
use Rattle.answers.specs.declared.Form.TheVariants.{Widths as AsWidths}
use Rattle.answers.specs.Lines.{list_line}
use Rattle.gs1_128.specs.Rules.{writes}

-- a line's bytes, without its byte 10, and the bytes of its answer; no symbol has more than 619 widths, so 12 is never printed
unfoldable pub answers : List ℕ → List ℕ
answers line = list_line AsWidths (writes (message_of line) 619)

-- room for any answer: two numbers, which have 20 digits at the most, 313 widths, a space after each of the first two, and byte 10
abbrev pub longest_answer : ℕ
longest_answer = 356
