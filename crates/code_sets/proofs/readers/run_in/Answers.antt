-- `code_sets::readers::run_in` meets its contract: each turn goes on from where the reading has come to, and what is left of the values falls;
-- a turn that does not go on in the set ends the run.
use Rattle.std.proofs.Common.{◌≡◌, refl, ℕ, List, Ok}
use Rattle.code_sets.specs.declared.readers.Run.{Run}
use Rattle.code_sets.specs.declared.readers.Run.TheVariants.{On, ToA, ToB, ToC}
use Rattle.code_sets.specs.Sets.{Set}
use Rattle.code_sets.specs.Reading.{Mode}
use Rattle.code_sets.specs.Readers.{Runs}
use Rattle.code_sets.proofs.ReaderLaws.{then_runs}
use Rattle.code_sets.proofs.readers.run_in.Goals as goal

-- any answer but the first is passed on
ends : {mode : Mode} {set : Set} {values : List ℕ} {from : ℕ} {before : List ℕ} {at past : ℕ} (least : ℕ) (r : Run) {after : List ℕ} → ((i n : ℕ) → r ≡ On i n → ⊥) → Runs mode set values from before at past (Ok r) after → Runs mode set values from before at least (Ok r) after
ends least (On i n) other runs = absurd (other i n refl)
ends least (ToA i n) other runs = record { reached = runs.reached }
ends least (ToB i n) other runs = record { reached = runs.reached }
ends least (ToC i n) other runs = record { reached = runs.reached }

pub returns-in_default : goal.returns-in_default
returns-in_default c = ends _ c.in_ok-turn.turn c.in_default.not-On (then_runs c.loop-i.invariant c.in_ok-turn.ensures)

pub loop-i-preserved : goal.loop-i-preserved
loop-i-preserved c = (then_runs c.loop-i.invariant (rw c.in-On.is at c.in_ok-turn.ensures)).reached.1
