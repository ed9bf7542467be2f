-- What a splitter has written after so many turns: the records of so many of the rule's strings, and then what the list held. Each next
-- string is found where the one before it says, so after as many turns as the rule has strings all their records stand there.
use Rattle.std.specs.Prelude.{Result}
use Prim.Native.Nat.{ℕ, suc, ◌+◌, ◌≤◌, ◌<◌, min}
use mathlib.Core.Path.{◌≡◌, refl, sym, ap, ap₂, ◌∙◌, subst}
use mathlib.Core.Bool.{Bool, true, false}
use mathlib.Core.List.{List, [], ◌∷◌, ◌++◌, map, append-nil, append_assoc}
use native.Mathlib.Omega.{arith}
use lib.ListN.{length, take, drop, set, get_or, replicate, length-append, length-take, length-map, take-append-drop, drop_of_length-le}
use native.Mathlib.Numerals.{add-one}
use Rattle.std.proofs.lemmas.List.{map-append, nil_from_length}
use lib.Seq.{drop-cons, drop-append-le, append_snoc, set_at}
use Rattle.refusal.specs.declared.Refusal.{Refusal}
use Rattle.refusal.specs.declared.Refusal.TheVariants.{Room}
use Rattle.refusal.specs.Outcome.{Outcome, made, refused}
use Rattle.refusal.specs.Fills.{Fills}
use Rattle.refusal.proofs.OutcomeLaws.{made_not_refused, made_same, bind_made}
use Rattle.refusal.proofs.FillsLaws.{laying_made, laying_refused, made_of_laying, fills_within}
use Rattle.elements.specs.declared.Element.{Element}
use Rattle.splitting.specs.declared.Record.{Record}
use Rattle.elements.specs.Strings.{string_at, tested}
use Rattle.splitting.specs.Splitting.{record_of, splits}
use Rattle.splitting.specs.Records.{blank_record}
use Rattle.elements.proofs.FromRule.{tested_made}
use Rattle.elements.proofs.WalkLaws.{From, First, first_of, from_start}

-- where a splitter stands after i turns: as many strings are passed, whose records are stored, and the walk goes on along the others
pub record Turn (message : List ℕ) (lent : List Record) (strings : List Element) (i at : ℕ) (now : List Record) : Type 0 where
  pub passed : List Element
  pub left : List Element
  pub parts : strings ≡ passed ++ left
  pub turns : length passed ≡ i
  pub stored : now ≡ map record_of passed ++ drop i lent
  pub used : List ℕ
  pub walk : i < length strings → From message at used left

pub turn_first : (message : List ℕ) (lent : List Record) (strings : List Element) → tested message ≡ made strings → Turn message lent strings 0 0 lent
turn_first message lent strings e =
    record { passed = []; left = strings; parts = refl; turns = refl; stored = refl; used = []; walk = λ _. from_start message strings (tested_made message strings e).strings }

module _ (message : List ℕ) (lent : List Record) (strings : List Element) (i at : ℕ) (now : List Record) (turn : Turn message lent strings i at now) where
  -- while strings are left, one is found
  module _ (more : i < length strings) where
    abbrev first : First message at turn.used turn.left
    first = first_of message at turn.left (turn.walk more)

    pub turn_found : (f : Refusal) → string_at message at ≡ refused f → ⊥
    turn_found f e = made_not_refused first.string f (sym first.here ∙ e)

    pub turn_next : (string : Element) → string_at message at ≡ made string → i < length lent → Turn message lent strings (i + 1) string.next (set now i (record_of string))
    turn_next string here room =
        let found = first.string in
        let own = record_of found in
        let front = map record_of turn.passed in
        let rest = drop (suc i) lent in
        let passed = turn.passed ++ (found ∷ []) in
        let parts : strings ≡ passed ++ first.more = turn.parts ∙ ap (λ (left : List Element). turn.passed ++ left) first.split ∙ sym (append_snoc turn.passed found first.more) in
        let turns : length passed ≡ suc i = omega (arith, length-append turn.passed (found ∷ []), turn.turns) in
        let stored : set now i own ≡ map record_of passed ++ rest =
        ap (λ (records : List Record). set records i own) (turn.stored ∙ ap (λ (left : List Record). front ++ left) (drop-cons lent i blank_record room))
        ∙ set_at front (get_or lent i blank_record) rest own i (length-map turn.passed record_of ∙ turn.turns)
        ∙ sym (append_snoc front own rest)
        ∙ ap (λ (records : List Record). records ++ rest) (sym (map-append record_of turn.passed (found ∷ []))) in
        subst (λ (s : Element). Turn message lent strings (i + 1) s.next (set now i (record_of s))) (made_same _ _ (sym first.here ∙ here))
        (subst (λ (k : ℕ). Turn message lent strings k found.next (set now i own)) (sym (add-one i))
        (record { passed = passed; left = first.more; parts = parts; turns = turns; stored = stored; used = turn.used ++ (found.identifier ∷ []); walk = λ further. go found.last refl (omega (arith, ap length parts, length-append passed first.more)) }))
      where
        go : (last : Bool) → first.string.last ≡ last → 1 ≤ length first.more → From message first.string.next (turn.used ++ (first.string.identifier ∷ [])) first.more
        go true is some = absurd (omega (arith, ap length (first.ends is)))
        go false is some = first.goes is

  -- and when none is left, the records of all are stored
  pub turn_last : i ≡ length strings → i ≡ length lent → now ≡ map record_of strings
  turn_last over full =
      let none : turn.left ≡ [] = nil_from_length turn.left (omega (arith, ap length turn.parts, length-append turn.passed turn.left, turn.turns)) in
      let all : turn.passed ≡ strings = sym (turn.parts ∙ ap (λ (left : List Element). turn.passed ++ left) none ∙ append-nil turn.passed) in
      turn.stored ∙ ap₂ (λ (passed : List Element) (rest : List Record). map record_of passed ++ rest) all (drop_of_length-le lent (omega arith)) ∙ append-nil (map record_of strings)

-- the rule, by what the test of the message came to
module _ (message : List ℕ) (room : ℕ) where
  pub splits_refused : (f : Refusal) → tested message ≡ refused f → splits message room ≡ refused f
  unfolding splits
  splits_refused f e = rw e

  pub splits_short : (strings : List Element) → tested message ≡ made strings → room < length strings → splits message room ≡ refused Room
  unfolding splits
  splits_short strings e h = rw e (laying_refused (map record_of strings) room (omega (arith, length-map strings record_of)))

  pub splits_enough : (strings : List Element) → tested message ≡ made strings → length strings ≤ room → splits message room ≡ made (map record_of strings)
  unfolding splits
  splits_enough strings e h = rw e (laying_made (map record_of strings) room (omega (arith, length-map strings record_of)))

-- the records that the rule makes
pub record Splits (message : List ℕ) (room : ℕ) (records : List Record) : Type 0 where
  pub strings : List Element
  pub accepted : tested message ≡ made strings
  pub enough : length strings ≤ room
  pub same : map record_of strings ≡ records

pub splits_made : (message : List ℕ) (room : ℕ) (records : List Record) → splits message room ≡ made records → Splits message room records
unfolding splits
splits_made message room records e =
    let a = bind_made (tested message) _ records e in
    let b = made_of_laying (map record_of a.0) records room a.2 in
    record { strings = a.0; accepted = a.1; enough = omega (arith, b.0, length-map a.0 record_of); same = b.1 }

-- a longer list of which only the front was lent
fills_longer : (o : Outcome (List Record)) (before more : List Record) (r : Result ℕ Refusal) (after : List Record) → Fills o before r after → length after ≡ length before → Fills o (before ++ more) r (after ++ more)
fills_longer (made xs) before more r after h kept =
    let within = fills_within (made xs) before r after h kept (length xs) h.answer in
    record {
      answer = h.answer;
      lent = ap (λ (front : List Record). front ++ more) h.lent ∙ append_assoc xs (drop (length xs) before) more ∙ ap (λ (rest : List Record). xs ++ rest) (sym (drop-append-le (length xs) before more within));
    }
fills_longer (refused f) before more r after h kept = record { answer = h.answer; lent = ap (λ (front : List Record). front ++ more) h.lent }

-- twelve blank records: the front that is lent, and the others
abbrev pub twelve : List Record
twelve = replicate 12 blank_record

abbrev pub front_of : ℕ → List Record
front_of room = take (min room 12) twelve

abbrev pub rest_of : ℕ → List Record
rest_of room = drop (min room 12) twelve

pub front_length : (room : ℕ) → min room 12 ≡ length (front_of room)
front_length room = omega (arith, length-take (min room 12) twelve)

pub twelve_parts : (room : ℕ) → twelve ≡ front_of room ++ rest_of room
twelve_parts room = sym (take-append-drop (min room 12) twelve)

pub twelve_filled : (message : List ℕ) (room : ℕ) (r : Result ℕ Refusal) (records : List Record) → Fills (splits message (length (front_of room))) (front_of room) r records → length records ≡ length (front_of room) → Fills (splits message (min room 12)) twelve r (records ++ rest_of room)
twelve_filled message room r records h kept =
    subst (λ (before : List Record). Fills (splits message (min room 12)) before r (records ++ rest_of room)) (sym (twelve_parts room))
    (fills_longer (splits message (min room 12)) (front_of room) (rest_of room) r records (subst (λ (n : ℕ). Fills (splits message n) (front_of room) r records) (sym (front_length room)) h) kept)
