-- Theorem 4 of the design for splitting: the records are exactly the element strings of the message, and ten always suffice. A record stands
-- for the string that it was made of, so all of it carries over from the strings of the test.
use Prim.Native.Nat.{ℕ, ◌≤◌, min}
use mathlib.Core.Path.{◌≡◌, refl, sym, ap, ◌∙◌, subst}
use mathlib.Core.List.{List, [], ◌∷◌, map}
use native.Mathlib.Decide.{dec_le}
use native.Mathlib.Omega.{arith}
use lib.ListN.{length, length-map}
use Rattle.refusal.specs.declared.Refusal.{Refusal}
use Rattle.refusal.specs.declared.Refusal.TheVariants.{Room}
use Rattle.refusal.specs.Outcome.{Outcome, made, refused}
use Rattle.refusal.proofs.OutcomeLaws.{made_not_refused}
use Rattle.elements.specs.declared.Element.{Element}
use Rattle.splitting.specs.declared.Record.{Record}
use Rattle.elements.specs.Strings.{tested}
use Rattle.elements.specs.Messages.{ElementString, IsMessage, string_of}
use Rattle.splitting.specs.Splitting.{record_of, splits, string_in}
use Rattle.splitting.proofs.SplitLaws.{splits_refused, splits_enough, splits_made}
use Rattle.elements.proofs.Theorems.{strings_of_accepted, accepted_of_strings, ten_strings}
use Rattle.elements.proofs.TestRefusals.{tested_has_room}

strings_shown : (message : List ℕ) (strings : List Element) → map (string_in message) (map record_of strings) ≡ map (string_of message) strings
strings_shown message [] = refl
strings_shown message (s ∷ ss) = ap (λ (rest : List ElementString). string_of message s ∷ rest) (strings_shown message ss)

-- the records that splitting makes stand for the element strings of the message
pub strings_of_split : (message : List ℕ) (room : ℕ) (records : List Record) → splits message room ≡ made records → IsMessage message (map (string_in message) records)
strings_of_split message room records e =
    let s = splits_made message room records e in
    subst (IsMessage message) (sym (strings_shown message s.strings) ∙ ap (map (string_in message)) s.same) (strings_of_accepted message s.strings s.accepted)

-- and every message is split, into records of exactly its element strings, wherever there are as many places
pub split_of_strings : (message : List ℕ) (room : ℕ) (strings : List ElementString) → IsMessage message strings → length strings ≤ room → (records : List Record) × (splits message room ≡ made records) × (map (string_in message) records ≡ strings)
split_of_strings message room strings m enough =
    let a = accepted_of_strings message strings m in
    let same = strings_shown message a.0 ∙ a.2 in
    let count : length a.0 ≤ room = omega (arith, ap length a.2, length-map a.0 (string_of message)) in
    (map record_of a.0, splits_enough message room a.0 a.1 count, same)

-- with ten places or more a refusal is the test's own, so never 12
pub refused_by_test : (message : List ℕ) (room : ℕ) (f : Refusal) → 10 ≤ room → splits message room ≡ refused f → tested message ≡ refused f
refused_by_test message room f enough e = go (tested message) refl
  where
    go : (o : Outcome (List Element)) → tested message ≡ o → tested message ≡ refused f
    go (made strings) is = absurd (made_not_refused (map record_of strings) f (sym (splits_enough message room strings is (omega (arith, ten_strings message strings is))) ∙ e))
    go (refused g) is = let same : g ≡ f = cc (sym (splits_refused message room g is) ∙ e) in is ∙ ap refused same

pub ten_records_suffice : (message : List ℕ) (room : ℕ) → 10 ≤ room → splits message room ≡ refused Room → ⊥
ten_records_suffice message room enough e = tested_has_room message (refused_by_test message room Room enough e)

-- so twelve places are as good as any more
pub splits_in_twelve : (message : List ℕ) (room : ℕ) → splits message (min room 12) ≡ splits message room
splits_in_twelve message room = go (dec_le room 12) (tested message) refl
  where
    go : Dec (room ≤ 12) → (o : Outcome (List Element)) → tested message ≡ o → splits message (min room 12) ≡ splits message room
    go (yes few) o is = ap (splits message) (omega arith)
    go (no many) (refused f) is = splits_refused message (min room 12) f is ∙ sym (splits_refused message room f is)
    go (no many) (made strings) is =
        let ten = ten_strings message strings is in
        splits_enough message (min room 12) strings is (omega arith) ∙ sym (splits_enough message room strings is (omega arith))
