-- A line of more than 48 bytes is answered alike whatever its bytes are: its message is refused for its count. The law of `Answerer` cites this.
use Rattle.std.proofs.Common.{ℕ, ◌≡◌, ◌≤◌, ◌<◌, List, length, sym, ap, ◌∙◌, arith}
use Rattle.std.proofs.lemmas.Bool.{le-leb, lt-leb}
use Rattle.std.proofs.lemmas.List.{length-map}
use Rattle.refusal.specs.declared.Refusal.TheVariants.{Count}
use Rattle.refusal.specs.Outcome.{refused}
use Rattle.elements.specs.Strings.{tested}
use Rattle.text.specs.Typed.{message_of}
use Rattle.answers.specs.declared.Form.TheVariants.{Widths as AsWidths}
use Rattle.answers.specs.Lines.{numbers_line, list_line}
use Rattle.gs1_128.specs.Rules.{writes}
use Rattle.gs1_128.proofs.WrittenLaws.{write_refused}
use Rattle.bench.specs.Line.{answers}

-- more than 48 bytes are refused for their count
pub written_over : (message : List ℕ) (room : ℕ) → 48 < length message → writes message room ≡ refused Count
unfolding tested
written_over message room h = write_refused message room Count (simp (le-leb 1 (length message) (omega arith), lt-leb (length message) 48 h))

-- `1 0`
pub long_line : (line : List ℕ) → 48 < length line → answers line ≡ numbers_line 1 0
unfolding answers
long_line line h = ap (list_line AsWidths) (written_over (message_of line) 619 (rw length-map h))

pub long_lines_alike : (line other : List ℕ) → 49 ≤ length line → 49 ≤ length other → answers line ≡ answers other
long_lines_alike line other h k = long_line line h ∙ sym (long_line other k)
