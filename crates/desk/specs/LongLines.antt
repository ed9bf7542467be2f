-- A line of more than 4096 bytes gets one error line, whatever its bytes are. The law of `Answerer` cites this.
use Rattle.std.proofs.Common.{ℕ, ◌≡◌, ◌≤◌, ◌<◌, List, [], ◌∷◌, ◌++◌, length, refl, sym, ◌∙◌}
use Rattle.std.proofs.lemmas.Bool.{lt-leb}
use Rattle.laws.specs.Text.{as_bytes}
use Rattle.calls.specs.Answers.{answer_to}

pub long_line : (line : List ℕ) → 4096 < length line → answer_to line ≡ as_bytes "error: a line has at most 4096 bytes" ++ (10 ∷ [])
unfolding answer_to
long_line line h = rw (lt-leb (length line) 4096 h) refl

pub long_lines_alike : (line other : List ℕ) → 4097 ≤ length line → 4097 ≤ length other → answer_to line ≡ answer_to other
long_lines_alike line other h k = long_line line h ∙ sym (long_line other k)
