-- A value is one step of the rule: its bytes are put after the text so far, and what is then to be read is the same. Steps follow one another,
-- so a run of them promises what its caller owes, and so does the reader that it hands on to. A text that is over 48 bytes already is
-- refused, whatever follows, as an illegal sequence is.
use Rattle.std.specs.Prelude.{Result, Ok, Err}
use Prim.Native.Nat.{ℕ, ◌+◌, ◌-◌, ◌≤◌, ◌<◌}
use mathlib.Core.Path.{◌≡◌, refl, sym, ap, subst, ◌∙◌}
use mathlib.Core.Bool.{Bool, true, false, cond, ◌&&◌}
use mathlib.Core.List.{List, [], ◌∷◌, ◌++◌, append_assoc, append-nil}
use native.Mathlib.Nat.{add-zero}
use native.Mathlib.Numerals.{add-one}
use native.Mathlib.Omega.{arith}
use lib.ListN.{length, get_or, take, drop, length-append, drop_of_length-le, take-append-drop}
use lib.Seq.{sets, sets-eq, length-sets, length-take-le, take_at, drop_at, drop-drop, drop-cons}
use lib.Dec.{leb}
use borrow.Author.Tests.{lt-ltb, le-ltb, le-leb, lt-leb, leb-true, leb-false}
use Rattle.character_set_82.specs.Characters.{is_of82}
use Rattle.refusal.specs.declared.Refusal.{Refusal}
use Rattle.refusal.specs.declared.Refusal.TheVariants.{Sequence}
use Rattle.refusal.specs.Outcome.{Outcome, made, refused, ◌>>=◌, ◌>>◌, must}
use Rattle.refusal.specs.Fills.{answer_of, FillsOwn}
use Rattle.refusal.proofs.OutcomeLaws.{made_not_refused, made_same, must_made, bind_made}
use Rattle.code_sets.specs.declared.readers.Run.{Run}
use Rattle.code_sets.specs.declared.readers.Run.TheVariants.{On, ToA, ToB, ToC}
use Rattle.code_sets.specs.Sets.{Set, set_a, set_b, set_c, Meaning, meaning_in, byte_in, other}
use Rattle.code_sets.specs.Reading.{Mode, in_set, shifted_from, Step, step, stuck, emitted, meant, step_in, go_on, spells}
use Rattle.code_sets.specs.Readers.{read_on, to_read, Came, Reached, Runs, changed, RunPuts}

-- the readers' one refusal
only_sequence : (mode : Mode) (values : List ℕ) (f : Refusal) → spells mode values ≡ refused f → f ≡ Sequence
unfolding spells
only_sequence (in_set set) [] f e = absurd (made_not_refused [] f e)
only_sequence (shifted_from set) [] f e = cc
only_sequence mode (value ∷ values) f e = go (step_in mode value) e (λ next. only_sequence next values f)
  where
    bound : (bytes : List ℕ) (o : Outcome (List ℕ)) → (o >>= (λ (text : List ℕ). made (bytes ++ text))) ≡ refused f → o ≡ refused f
    bound bytes (made text) e = absurd (made_not_refused (bytes ++ text) f e)
    bound bytes (refused g) e = cc

    go : (s : Step) → go_on s (λ next. spells next values) ≡ refused f → ((next : Mode) → spells next values ≡ refused f → f ≡ Sequence) → f ≡ Sequence
    go (step bytes next) e rest = rest next (bound bytes (spells next values) e)
    go stuck e rest = cc

-- the rule of going on, by what the values spell
on : List ℕ → Outcome (List ℕ) → Outcome (List ℕ)
on so_far o = o >>= (λ (text : List ℕ). must (leb (length (so_far ++ text)) 48) Sequence >> made (so_far ++ text))

module _ (so_far : List ℕ) where
  read_over : (set : Set) → length so_far ≤ 48 → read_on so_far (in_set set) [] ≡ made so_far
  unfolding read_on spells
  read_over set h = rw (append-nil, le-leb (length so_far) 48 h)

  read_over_shift : (set : Set) → read_on so_far (shifted_from set) [] ≡ refused Sequence
  unfolding read_on spells
  read_over_shift set = refl

  read_stuck : (mode : Mode) (value : ℕ) (values : List ℕ) → step_in mode value ≡ stuck → read_on so_far mode (value ∷ values) ≡ refused Sequence
  unfolding read_on spells
  read_stuck mode value values e = rw e

  read_step : (mode next : Mode) (value : ℕ) (values bytes : List ℕ) → step_in mode value ≡ step bytes next → read_on so_far mode (value ∷ values) ≡ read_on (so_far ++ bytes) next values
  unfolding read_on spells on
  read_step mode next value values bytes e = rw e (go (spells next values))
    where
      go : (o : Outcome (List ℕ)) → on so_far (o >>= (λ (text : List ℕ). made (bytes ++ text))) ≡ on (so_far ++ bytes) o
      go (made text) = rw (append_assoc so_far bytes text)
      go (refused f) = refl

  read_full : (mode : Mode) (values : List ℕ) → 48 < length so_far → read_on so_far mode values ≡ refused Sequence
  unfolding read_on on
  read_full mode values h = go (spells mode values) refl
    where
      go : (o : Outcome (List ℕ)) → spells mode values ≡ o → on so_far o ≡ refused Sequence
      go (made text) e = rw (lt-leb (length (so_far ++ text)) 48 (rw length-append (omega arith)))
      go (refused f) e = ap refused (only_sequence mode values f e)

  read_longer : (mode : Mode) (values text : List ℕ) → read_on so_far mode values ≡ made text → length so_far ≤ length text
  unfolding read_on
  read_longer mode values text e =
      let b = bind_made (spells mode values) (λ (rest : List ℕ). must (leb (length (so_far ++ rest)) 48) Sequence >> made (so_far ++ rest)) text e in
      let m = must_made (leb (length (so_far ++ b.0)) 48) Sequence (made (so_far ++ b.0)) text b.2 in
      rw (← made_same (so_far ++ b.0) text m.1, length-append) (omega arith)

-- what two lists have in common from a place on they have in common from a later one
rest_later : (x y : List ℕ) (n m : ℕ) → n ≤ m → drop n x ≡ drop n y → drop m x ≡ drop m y
rest_later x y n m h e =
    let split : n + (m - n) ≡ m = omega arith in
    subst (λ (k : ℕ). drop k x ≡ drop k y) split (sym (drop-drop (m - n) n x) ∙ ap (drop (m - n)) e ∙ drop-drop (m - n) n y)

-- what a value means in a set is its step
pub step_of : (set : Set) (value : ℕ) (meaning : Meaning) → meaning_in set value ≡ meaning → step_in (in_set set) value ≡ meant set meaning
unfolding step_in
step_of set value meaning e = ap (meant set) e

-- a shift is followed by a value of 0 to 95
pub shifted_high : (set : Set) (value : ℕ) → 96 ≤ value → step_in (shifted_from set) value ≡ stuck
unfolding step_in
shifted_high set value h = rw (le-ltb value 96 h)

pub shifted_low : (set : Set) (value b : ℕ) → b ≡ byte_in (other set) value → value < 96 → step_in (shifted_from set) value ≡ emitted (is_of82 b) (b ∷ []) (in_set set)
unfolding step_in
shifted_low set value b e h = rw (e, lt-ltb value 96 h)

-- one value
module _ (mode : Mode) (values : List ℕ) (i : ℕ) (here : i < length values) (text : List ℕ) (size : length text ≡ 48) (n : ℕ) (few : n ≤ 48) where
  abbrev value : ℕ
  value = get_or values i 0

  apart : to_read mode values i text n ≡ read_on (take n text) mode (value ∷ drop (i + 1) values)
  apart = ap (read_on (take n text) mode) (rw add-one (drop-cons values i 0 here))

  long : length (take n text) ≡ n
  long = length-take-le n text (omega arith)

  pub sticks : step_in mode value ≡ stuck → to_read mode values i text n ≡ refused Sequence
  sticks e = apart ∙ read_stuck (take n text) mode value (drop (i + 1) values) e

  module _ (bytes : List ℕ) (next : Mode) (is : step_in mode value ≡ step bytes next) where
    abbrev m : ℕ
    m = n + length bytes

    stepped : to_read mode values i text n ≡ read_on (take n text ++ bytes) next (drop (i + 1) values)
    stepped = apart ∙ read_step (take n text) mode next value (drop (i + 1) values) bytes is

    front : length (take n text ++ bytes) ≡ m
    front = simp (length-append, long)

    too_long : 48 < m → to_read mode values i text n ≡ refused Sequence
    too_long h = stepped ∙ read_full (take n text ++ bytes) next (drop (i + 1) values) (omega (arith, front))

    steps : m ≤ 48 → Came mode values i text n next (i + 1) (sets text n bytes) m
    steps h =
        let whole : sets text n bytes ≡ (take n text ++ bytes) ++ drop m text = sets-eq bytes text n (omega arith) in
        record {
          further = omega arith;
          within = omega arith;
          size = length-sets text n bytes ∙ size;
          more = omega arith;
          few = h;
          same = stepped ∙ ap (λ (t : List ℕ). read_on t next (drop (i + 1) values)) (sym (ap (take m) whole ∙ take_at (take n text ++ bytes) (drop m text) m front));
          rest = ap (drop m) whole ∙ drop_at (take n text ++ bytes) (drop m text) m front;
        }

  -- a value that gives no byte
  pub passes : (next : Mode) → step_in mode value ≡ step [] next → Came mode values i text n next (i + 1) text n
  passes next is = rw add-zero at (steps [] next is (omega arith))

  -- a value whose bytes are put
  pub turns : (set : Set) (legal : Bool) (bytes : List ℕ) (least : ℕ) (r : Result Run Refusal) (after : List ℕ) → least ≤ i + 1 → step_in mode value ≡ emitted legal bytes (in_set set) → RunPuts legal bytes (i + 1) n text r after → Runs mode set values i text n least r after
  turns set legal bytes least r after past is puts =
      record { reached = rw puts.answer (go legal (leb (n + length bytes) (length text)) refl is puts.lent) }
    where
      go : (l fits : Bool) → leb (n + length bytes) (length text) ≡ fits → step_in mode value ≡ emitted l bytes (in_set set) → ((l && fits) ≡ true → after ≡ sets text n bytes) → Reached mode set values i text n least (cond (l && fits) (Ok (On (i + 1) (n + length bytes))) (Err Sequence)) after
      go true true fits is lent =
          (past, rw (lent refl) (steps bytes (in_set set) is (omega (arith, leb-true (n + length bytes) (length text) fits))))
      go true false fits is lent = too_long bytes (in_set set) is (omega (arith, leb-false (n + length bytes) (length text) fits))
      go false true fits is lent = sticks is
      go false false fits is lent = sticks is

-- a change of set
pub changes : {mode : Mode} {values : List ℕ} {from : ℕ} {before : List ℕ} {at i : ℕ} {text : List ℕ} {n : ℕ} (set to : Set) (least : ℕ) → from + 1 ≤ i → Came mode values from before at (in_set to) i text n → Runs mode set values from before at least (Ok (changed to i n)) text
changes set set_a least past came = record { reached = (past, came) }
changes set set_b least past came = record { reached = (past, came) }
changes set set_c least past came = record { reached = (past, came) }

-- a shift that nothing follows
pub shift_at_end : (set : Set) (values : List ℕ) (i : ℕ) (text : List ℕ) (n : ℕ) → length values ≤ i → to_read (shifted_from set) values i text n ≡ refused Sequence
shift_at_end set values i text n over =
    ap (read_on (take n text) (shifted_from set)) (drop_of_length-le values {i = i} over) ∙ read_over_shift (take n text) set

-- one after the other
module _ {mode : Mode} {values : List ℕ} {from : ℕ} {before : List ℕ} {at : ℕ} where
  module _ {next : Mode} {i : ℕ} {text : List ℕ} {n : ℕ} (came : Came mode values from before at next i text n) where
    pub then : {last : Mode} {j : ℕ} {after : List ℕ} {m : ℕ} → Came next values i text n last j after m → Came mode values from before at last j after m
    then {after = after} {m = m} on = record {
      further = omega (arith, came.further, on.further);
      within = on.within;
      size = on.size;
      more = omega (arith, came.more, on.more);
      few = on.few;
      same = came.same ∙ on.same;
      rest = on.rest ∙ rest_later text before n m on.more came.rest;
    }

    pub then_runs : {set : Set} {least : ℕ} {r : Result Run Refusal} {after : List ℕ} → Runs next set values i text n least r after → Runs mode set values from before at least r after
    then_runs {set} {least} {r} {after} runs = record { reached = go r runs.reached }
      where
        go : (r : Result Run Refusal) → Reached next set values i text n least r after → Reached mode set values from before at least r after
        go (Ok (On j m)) to = (to.0, then to.1)
        go (Ok (ToA j m)) to = (omega (arith, came.further, to.0), then to.1)
        go (Ok (ToB j m)) to = (omega (arith, came.further, to.0), then to.1)
        go (Ok (ToC j m)) to = (omega (arith, came.further, to.0), then to.1)
        go (Err f) to = came.same ∙ to

    -- another reader goes on
    then_reads : (r : Result ℕ Refusal) (after : List ℕ) → FillsOwn (to_read next values i text n) text r after → FillsOwn (to_read mode values from before at) before r after
    then_reads r after reads = record {
      answer = reads.answer ∙ ap answer_of (sym came.same);
      lent = λ xs is.
          let made-on = sym came.same ∙ is in
          let longer = read_longer (take n text) next (drop i values) xs made-on in
          let long = length-take-le n text (omega (arith, came.size, came.few)) in
          reads.lent xs made-on ∙ ap (λ (rest : List ℕ). xs ++ rest) (rest_later text before n (length xs) (omega arith) came.rest);
    }

  -- the end of the values
  then_ends : {set : Set} {i : ℕ} {text : List ℕ} {n : ℕ} → Came mode values from before at (in_set set) i text n → length values ≤ i → FillsOwn (to_read mode values from before at) before (Ok n) text
  then_ends {set} {i} {text} {n} came over =
      let long : length (take n text) ≡ n = length-take-le n text (omega (arith, came.size, came.few)) in
      let ended : to_read (in_set set) values i text n ≡ made (take n text) =
      ap (read_on (take n text) (in_set set)) (drop_of_length-le values {i = i} over) ∙ read_over (take n text) set (omega (arith, came.few)) in
      then_reads came (Ok n) text record {
        answer = ap Ok (sym long) ∙ ap answer_of (sym ended);
        lent = λ xs is. rw (← made_same (take n text) xs (sym ended ∙ is), long) (sym (take-append-drop n text));
      }

-- where a reader's run has answered
module _ {set : Set} {values : List ℕ} {from : ℕ} {before : List ℕ} {at : ℕ} {run : Run} {middle : List ℕ} (runs : Runs (in_set set) set values from before at (length values) (Ok run) middle) where
  there : (r : Run) → run ≡ r → Reached (in_set set) set values from before at (length values) (Ok r) middle
  there r e = subst (λ (r : Run). Reached (in_set set) set values from before at (length values) (Ok r) middle) e runs.reached

  pub ends : (i n : ℕ) → run ≡ On i n → FillsOwn (to_read (in_set set) values from before at) before (Ok n) middle
  ends i n e = let to = there (On i n) e in then_ends to.1 to.0

  came_to : (next : Set) (i n : ℕ) → run ≡ changed next i n → Came (in_set set) values from before at (in_set next) i middle n
  came_to set_a i n e = (there (ToA i n) e).1
  came_to set_b i n e = (there (ToB i n) e).1
  came_to set_c i n e = (there (ToC i n) e).1

  -- at a change, what the next reader reads is what this one owes
  pub hands_on : (next : Set) (i n : ℕ) → run ≡ changed next i n → {r : Result ℕ Refusal} {after : List ℕ} → FillsOwn (to_read (in_set next) values i middle n) middle r after → FillsOwn (to_read (in_set set) values from before at) before r after
  hands_on next i n e {r} {after} reads = then_reads (came_to next i n e) r after reads
