-- `code_sets::readers::turn_in` meets its contract: what a value means is its step, and each meaning is one of three: bytes that are put, a
-- change or a shift that gives none, or nothing legal.
use Rattle.std.proofs.Common.{arith, ℕ, ◌+◌, ◌≡◌, Bool, List, [], get_or, Result, Err, sym, ◌∙◌}
use Rattle.code_sets.specs.declared.readers.Run.{Run}
use Rattle.refusal.specs.declared.Refusal.{Refusal}
use Rattle.refusal.specs.declared.Refusal.TheVariants.{Sequence}
use Rattle.code_sets.specs.Sets.{Set, Meaning, byte, pair, change, shift, separator, illegal}
use Rattle.code_sets.specs.Reading.{Mode, in_set, shifted_from, Step, step, stuck, emitted, meant, step_in}
use Rattle.code_sets.specs.Readers.{Came, Runs, RunPuts}
use Rattle.code_sets.proofs.ReaderLaws.{step_of, sticks, passes, turns, changes, then_runs}
use Rattle.code_sets.proofs.readers.turn_in.Goals.{After-meaning_in}
use Rattle.code_sets.proofs.readers.turn_in.Goals as goal

-- where the value's meaning has been told
module _ (c : After-meaning_in) where
  abbrev set : Set
  set = c.args.set

  abbrev values : List ℕ
  values = c.args.values.now

  abbrev i : ℕ
  i = c.args.i

  abbrev text : List ℕ
  text = c.args.text.now

  abbrev n : ℕ
  n = c.args.n

  abbrev StepIs : Step → Type 0
  StepIs s = step_in (in_set set) (get_or values i 0) ≡ s

  abbrev Turns : Result Run Refusal → List ℕ → Type 0
  Turns r after = Runs (in_set set) set values i text n (i + 1) r after

  is-step : (meaning : Meaning) → c.meaning_in.result ≡ meaning → StepIs (meant set meaning)
  is-step meaning e = step_of set (get_or values i 0) meaning (sym c.meaning_in.ensures ∙ e)

  goes_to : (next : Mode) → StepIs (step [] next) → Came (in_set set) values i text n next (i + 1) text n
  goes_to = passes (in_set set) values i c.requires.0 text c.told-text n c.requires.1

  stuck_at : StepIs stuck → Turns (Err Sequence) text
  stuck_at e = record { reached = sticks (in_set set) values i c.requires.0 text c.told-text n c.requires.1 e }

  puts : {legal : Bool} {bytes : List ℕ} {r : Result Run Refusal} {after : List ℕ} → RunPuts legal bytes (i + 1) n text r after → StepIs (emitted legal bytes (in_set set)) → Turns r after
  puts {legal} {bytes} {r} {after} p e =
      turns (in_set set) values i c.requires.0 text c.told-text n c.requires.1 set legal bytes (i + 1) r after (omega arith) e p

pub returns-in-Byte : goal.returns-in-Byte
returns-in-Byte c =
    let at = (goal.at.returns-in-Byte c).After-meaning_in in
    puts at c.put_byte.ensures (is-step at (byte _) c.in-Byte.is)

pub returns-in-Pair : goal.returns-in-Pair
returns-in-Pair c =
    let at = (goal.at.returns-in-Pair c).After-meaning_in in
    puts at c.put_pair.ensures (is-step at (pair _) c.in-Pair.is)

pub returns-in-Change : goal.returns-in-Change
returns-in-Change c =
    let at = (goal.at.returns-in-Change c).After-meaning_in in
    let to = c.in-Change.to in
    rw c.change_to.ensures (changes c.args.set to (c.args.i + 1) (omega arith) (goes_to at (in_set to) (is-step at (change to) c.in-Change.is)))

pub returns-in-Shift : goal.returns-in-Shift
returns-in-Shift c =
    let at = (goal.at.returns-in-Shift c).After-meaning_in in
    then_runs (goes_to at (shifted_from c.args.set) (is-step at shift c.in-Shift.is)) c.shifted_in.ensures

pub returns-in-Separator : goal.returns-in-Separator
returns-in-Separator c =
    let at = (goal.at.returns-in-Separator c).After-meaning_in in
    puts at c.put.ensures (is-step at separator c.in-Separator.is)

pub returns-in-Illegal : goal.returns-in-Illegal
returns-in-Illegal c =
    let at = (goal.at.returns-in-Illegal c).After-meaning_in in
    stuck_at at (is-step at illegal c.in-Illegal.is)
