-- What the rule of a line says: a line of more than 48 bytes is answered alike whatever its bytes are, so of a line that hasn't ended its
-- first 49 bytes suffice; and every refusal is the message's own, never 12.
use Rattle.std.proofs.Common.{ℕ, ◌≡◌, List, ◌++◌, take, arith}
use Rattle.refusal.specs.declared.Refusal.{Refusal}
use Rattle.refusal.specs.declared.Refusal.TheVariants.{Room}
use Rattle.refusal.specs.Outcome.{refused}
use Rattle.elements.specs.Strings.{tested}
use Rattle.elements.proofs.TestRefusals.{tested_has_room}
use Rattle.text.specs.Typed.{message_of}
use Rattle.gs1_128.specs.Rules.{writes}
use Rattle.serving.proofs.Theorems.{held_as_whole as serving_held_as_whole}
use Rattle.bench.specs.Line.{answers}
use Rattle.bench.specs.LongLines.{long_lines_alike}
use Rattle.bench.proofs.WrittenLaws.{write_refused_by_test}
pub use Rattle.bench.specs.LongLines.{long_line}

-- what the program keeps of a line that hasn't ended, and the bytes that come after it
pub held_as_whole : (begun rest : List ℕ) → answers (take 49 begun ++ rest) ≡ answers (begun ++ rest)
held_as_whole = serving_held_as_whole answers 49 long_lines_alike

-- a refusal that is printed is the message's own
pub refusal_printed : (line : List ℕ) (f : Refusal) → writes (message_of line) 619 ≡ refused f → tested (message_of line) ≡ refused f
refusal_printed line f e = write_refused_by_test (message_of line) 619 f (omega arith) e

-- 12 is never printed
pub room_never_printed : (line : List ℕ) → writes (message_of line) 619 ≡ refused Room → ⊥
room_never_printed line e = tested_has_room (message_of line) (refusal_printed line Room e)
