-- Every message is accepted, with its own strings: where the bytes from a place on are strings joined, the rule finds the first of them
-- there, and the others from where it says that the next must begin.
use Rattle.std.specs.Prelude.{Option, Some, None}
use Prim.Native.Nat.{ℕ, zero, suc, ◌+◌, ◌≤◌}
use mathlib.Core.Path.{◌≡◌, refl, sym, ap, ap₂, ◌∙◌}
use mathlib.Core.Bool.{Bool, true, false, cond, ◌||◌}
use mathlib.Core.List.{List, [], ◌∷◌, ◌++◌, map}
use native.Mathlib.Nat.{le_of_suc-le-suc, not-suc-le-zero}
use native.Mathlib.Omega.{arith}
use lib.ListN.{length, drop, length-append, length-drop}
use lib.Seq.{drop-drop, drop_at}
use lib.Dec.{eqb}
use borrow.Author.Tests.{eqb-true, eq-eqb, ne_eqb, le-leb}
use Rattle.laws.specs.First.{first_not}
use Rattle.laws.proofs.FirstLaws.{first_of_nil, pass_also, pass_append}
use Rattle.refusal.specs.Outcome.{made}
use Rattle.digits.specs.Digit.{is_digit}
use Rattle.elements.specs.declared.Element.{Element}
use Rattle.identifiers.specs.declared.Kind.{Kind}
use Rattle.laws.specs.Among.{among}
use Rattle.character_set_82.specs.Characters.{separator, is_of82, is_message_byte}
use Rattle.identifiers.specs.Identifiers.{kind_of, spelled, identifier_in}
use Rattle.identifiers.specs.Data.{right_data}
use Rattle.elements.specs.Strings.{data_of, next_after, element_of, string_at, strings_from, parsed, tested}
use Rattle.elements.specs.Messages.{ElementString, used_in, Right, AllRight, right_more, Different, different_more, closing_of, closing, joined, IsMessage, string_of}
use Rattle.laws.proofs.AmongLaws.{among_of_nil, among_more, among_append}
use Rattle.identifiers.proofs.ListedLaws.{listed_if_kind, found_listed}
use Rattle.identifiers.proofs.DecisionLaws.{spelling_of}
use Rattle.elements.proofs.StringLaws.{data_part, string_right}
use Rattle.elements.proofs.CountLaws.{from_last, from_made}
use Rattle.elements.proofs.CutLaws.{closing_is}
use Rattle.character_set_82.proofs.CharacterLaws.{separator_byte, digit_of_82, message_byte}
use Rattle.elements.proofs.PlainLaws.{sound, data_at_end, data_before}
use Rattle.elements.proofs.FromRule.{joined_more, regroup}

abbrev with_content : ℕ → List ℕ → ElementString
with_content identifier content = record { identifier = identifier; content = content }

-- a right string at a place: its identifier's digits, then bytes at whose front is its data
module _ (message : List ℕ) (place : ℕ) (s : ElementString) (r : Right s) (rest : List ℕ) (begins : drop place message ≡ spelled s.identifier ++ rest) (front : data_of r.kind rest ≡ s.content) where
  abbrev x : ℕ
  x = s.identifier

  abbrev begin : ℕ
  begin = place + length (spelled x)

  abbrev element : Element
  element = element_of message x r.kind begin

  two : 2 ≤ length (spelled x)
  two = (spelling_of x (listed_if_kind x r.kind r.listed)).two

  after : drop begin message ≡ rest
  after = sym (drop-drop (length (spelled x)) place message) ∙ ap (drop (length (spelled x))) begins ∙ drop_at (spelled x) rest (length (spelled x)) refl

  data_is : data_of r.kind (drop begin message) ≡ s.content
  data_is = ap (data_of r.kind) after ∙ front

  here : string_at message place ≡ made element
  here =
      string_right message place x r.kind (ap identifier_in begins ∙ found_listed x rest (listed_if_kind x r.kind r.listed)) r.listed begin refl
      (ap (right_data r.kind) data_is ∙ r.right)

  same_string : string_of message element ≡ s
  unfolding element_of
  same_string = ap (with_content x) (data_part r.kind (drop begin message) ∙ data_is)

  size : length message ≡ begin + length rest
  size = omega (arith, two, ap length begins, length-append (spelled x) rest, length-drop place message)

  ends : rest ≡ s.content → element.last ≡ true
  unfolding element_of
  ends last = eq-eqb (begin + length (data_of r.kind (drop begin message))) (length message) (omega (arith, size, ap length data_is, ap length last))

  module _ (more : List ℕ) (follows : rest ≡ s.content ++ (cond r.kind.predefined [] (separator ∷ []) ++ more)) where
    goes_on : 1 ≤ length more → element.last ≡ false
    unfolding element_of
    goes_on some_more =
        ne_eqb (begin + length (data_of r.kind (drop begin message))) (length message)
        (λ (e : begin + length (data_of r.kind (drop begin message)) ≡ length message).
        omega (arith, size, ap length data_is, ap length follows, length-append s.content (cond r.kind.predefined [] (separator ∷ []) ++ more), length-append (cond r.kind.predefined [] (separator ∷ [])) more))

    next_is : drop element.next message ≡ more
    unfolding element_of next_after
    next_is = go r.kind.predefined (sym (drop-drop (length (data_of r.kind (drop begin message))) begin message) ∙ ap₂ (λ (n : ℕ) (bytes : List ℕ). drop n bytes) (ap length data_is) (after ∙ follows) ∙ drop_at s.content _ (length s.content) refl)
      where
        go : (p : Bool) → drop (begin + length (data_of r.kind (drop begin message))) message ≡ cond p [] (separator ∷ []) ++ more → drop (cond p (begin + length (data_of r.kind (drop begin message))) (begin + length (data_of r.kind (drop begin message)) + 1)) message ≡ more
        go true e = e
        go false e = sym (drop-drop 1 (begin + length (data_of r.kind (drop begin message))) message) ∙ ap (drop 1) e

-- the rule finds these strings from a place on
record Rebuilt (k : ℕ) (message : List ℕ) (place : ℕ) (used : List ℕ) (strings : List ElementString) : Type 0 where
  elements : List Element
  found : strings_from k message place used ≡ made elements
  same : map (string_of message) elements ≡ strings

-- none of the identifiers used is among these strings'
abbrev New : List ℕ → List ElementString → Type 0
New used strings = (u : ℕ) → among used u ≡ true → among (used_in strings) u ≡ false

first_new : (used : List ℕ) (s : ElementString) (ss : List ElementString) → New used (s ∷ ss) → among used s.identifier ≡ false
first_new used s ss new = go (among used s.identifier) refl
  where
    go : (b : Bool) → among used s.identifier ≡ b → b ≡ false
    go false e = refl
    go true e =
        absurd (let no : true ≡ false = rw (among_more s.identifier (used_in ss) s.identifier, eq-eqb s.identifier s.identifier refl) at (new s.identifier e) in let z : ◌≡◌ {A = ℕ} 0 1 = cc in omega arith)

others_new : (used : List ℕ) (s : ElementString) (ss : List ElementString) → New used (s ∷ ss) → among (used_in ss) s.identifier ≡ false → New (used ++ (s.identifier ∷ [])) ss
others_new used s ss new apart u h = go (among used u) refl (eqb s.identifier u) refl (rw (among_append used (s.identifier ∷ []) u, among_more s.identifier [] u, among_of_nil u) at h)
  where
    go : (a : Bool) → among used u ≡ a → (b : Bool) → eqb s.identifier u ≡ b → (a || (b || false)) ≡ true → among (used_in ss) u ≡ false
    go true p b q e = either b (rw (among_more s.identifier (used_in ss) u, q) at (new u p))
      where
        either : (b : Bool) → (b || among (used_in ss) u) ≡ false → among (used_in ss) u ≡ false
        either true e = absurd (let z : ◌≡◌ {A = ℕ} 0 1 = cc in omega arith)
        either false e = e
    go false p true q e = rw (eqb-true s.identifier u q) at apart
    go false p false q e = absurd (let z : ◌≡◌ {A = ℕ} 0 1 = cc in omega arith)

-- the bytes of each string and what closes it
abbrev pub bytes_of : List ElementString → ℕ
bytes_of [] = 0
bytes_of (s ∷ ss) = length (spelled s.identifier) + length s.content + length (closing s.identifier) + bytes_of ss

closing_short : (x : ℕ) → length (closing x) ≤ 1
unfolding closing
closing_short x = go (kind_of x)
  where
    either : (p : Bool) → length {A = ℕ} (cond p [] (separator ∷ [])) ≤ 1
    either true = omega arith
    either false = omega arith

    go : (o : Option Kind) → length (closing_of o) ≤ 1
    go None = omega arith
    go (Some kind) = either kind.predefined

-- nothing closes the last
pub bytes_most : (s : ElementString) (ss : List ElementString) → bytes_of (s ∷ ss) ≤ length (joined (s ∷ ss)) + 1
unfolding joined
bytes_most s [] = omega (arith, closing_short s.identifier, length-append (spelled s.identifier) s.content)
bytes_most s (t ∷ ts) =
    omega (arith, bytes_most t ts, length-append (spelled s.identifier ++ s.content ++ closing s.identifier) (joined (t ∷ ts)), length-append (spelled s.identifier ++ s.content) (closing s.identifier), length-append (spelled s.identifier) s.content)

bytes_least : (strings : List ElementString) → AllRight strings → length strings + length strings ≤ bytes_of strings
bytes_least [] rs = omega arith
bytes_least (s ∷ ss) (right_more r rs) = omega (arith, bytes_least ss rs, (spelling_of s.identifier (listed_if_kind s.identifier r.kind r.listed)).two)

pub joined_some : (s : ElementString) (ss : List ElementString) → AllRight (s ∷ ss) → length (s ∷ ss) ≤ length (joined (s ∷ ss))
joined_some s ss rs = omega (arith, bytes_most s ss, bytes_least (s ∷ ss) rs)

-- the last string, and one that others follow
module _ (k : ℕ) (message : List ℕ) (place : ℕ) (used : List ℕ) (s : ElementString) (r : Right s) where
  rebuilt_last : New used (s ∷ []) → drop place message ≡ joined (s ∷ []) → Rebuilt (suc k) message place used (s ∷ [])
  unfolding joined element_of
  rebuilt_last new e =
      let front = data_at_end r.kind s.content (sound r.kind s.content r.right) in
      record {
        elements = element message place s r s.content e front ∷ [];
        found = from_last k message place used (element message place s r s.content e front) (here message place s r s.content e front) (first_new used s [] new) (ends message place s r s.content e front refl);
        same = ap (λ (t : ElementString). t ∷ []) (same_string message place s r s.content e front);
      }

  module _ (t : ElementString) (ts : List ElementString) (new : New used (s ∷ t ∷ ts)) (e : drop place message ≡ joined (s ∷ t ∷ ts)) (some_more : 1 ≤ length (joined (t ∷ ts))) where
    abbrev more : List ℕ
    more = joined (t ∷ ts)

    abbrev rest : List ℕ
    rest = s.content ++ (cond r.kind.predefined [] (separator ∷ []) ++ more)

    begun : drop place message ≡ spelled s.identifier ++ rest
    begun =
        e ∙ joined_more s t ts ∙ sym (regroup (spelled s.identifier) s.content (closing s.identifier) more)
        ∙ ap (λ (c : List ℕ). spelled s.identifier ++ (s.content ++ (c ++ more))) (closing_is s.identifier r.kind r.listed)

    front : data_of r.kind rest ≡ s.content
    front = data_before r.kind s.content (sound r.kind s.content r.right) s.identifier r.listed more

    abbrev first : Element
    first = element message place s r rest begun front

    next_place : drop first.next message ≡ more
    next_place = next_is message place s r rest begun front more refl

    rebuilt_more : Rebuilt k message first.next (used ++ (s.identifier ∷ [])) (t ∷ ts) → Rebuilt (suc k) message place used (s ∷ t ∷ ts)
    unfolding element_of
    rebuilt_more later = record {
      elements = first ∷ later.elements;
      found = from_made k message place used first (here message place s r rest begun front) (first_new used s (t ∷ ts) new) (goes_on message place s r rest begun front more refl some_more) later.elements later.found;
      same = ap₂ (λ (u : ElementString) (us : List ElementString). u ∷ us) (same_string message place s r rest begun front) later.same;
    }

rebuild : (k : ℕ) (message : List ℕ) (place : ℕ) (used : List ℕ) (s : ElementString) (ss : List ElementString) → AllRight (s ∷ ss) → Different (s ∷ ss) → New used (s ∷ ss) → drop place message ≡ joined (s ∷ ss) → length (s ∷ ss) ≤ k → Rebuilt k message place used (s ∷ ss)
rebuild zero message place used s ss rs ds new e h = absurd (not-suc-le-zero h)
rebuild (suc k) message place used s [] (right_more r rs) ds new e h = rebuilt_last k message place used s r new e
rebuild (suc k) message place used s (t ∷ ts) (right_more r rs) (different_more d ds) new e h =
    let some_more : 1 ≤ length (joined (t ∷ ts)) = omega (arith, joined_some t ts rs) in
    rebuilt_more k message place used s r t ts new e some_more
    (rebuild k message _ (used ++ (s.identifier ∷ [])) t ts rs ds (others_new used s (t ∷ ts) new d) (next_place k message place used s r t ts new e some_more) (le_of_suc-le-suc h))

pub parsed_of_message : (message : List ℕ) (s : ElementString) (ss : List ElementString) → IsMessage message (s ∷ ss) → (elements : List Element) × (parsed message ≡ made elements) × (map (string_of message) elements ≡ s ∷ ss)
unfolding parsed
parsed_of_message message s ss m =
    let b = rebuild (suc (length message)) message 0 [] s ss m.right m.different (λ u h. absurd (let no = among_of_nil u in let z : ◌≡◌ {A = ℕ} 0 1 = cc in omega arith)) m.whole (omega (arith, joined_some s ss m.right, ap length m.whole)) in
    (b.elements, b.found, b.same)

-- every byte of strings that are joined is one that a message may have
spelled_bytes : (x : ℕ) (kind : Kind) → kind_of x ≡ Some kind → first_not is_message_byte (spelled x) ≡ length (spelled x)
spelled_bytes x kind is =
    pass_also is_digit is_message_byte (λ b d. message_byte b (digit_of_82 b d)) (spelled x) (spelling_of x (listed_if_kind x kind is)).all_digits

content_bytes : (s : ElementString) (r : Right s) → first_not is_message_byte s.content ≡ length s.content
content_bytes s r = pass_also is_of82 is_message_byte message_byte s.content (sound r.kind s.content r.right).of_82

closing_bytes : (s : ElementString) (r : Right s) → first_not is_message_byte (closing s.identifier) ≡ length (closing s.identifier)
unfolding first_not
closing_bytes s r = rw (closing_is s.identifier r.kind r.listed) (go r.kind.predefined)
  where
    go : (p : Bool) → first_not is_message_byte (cond p [] (separator ∷ [])) ≡ length {A = ℕ} (cond p [] (separator ∷ []))
    go true = refl
    go false = rw separator_byte

pub joined_bytes : (strings : List ElementString) → AllRight strings → first_not is_message_byte (joined strings) ≡ length (joined strings)
unfolding joined
joined_bytes [] rs = first_of_nil is_message_byte
joined_bytes (s ∷ []) (right_more r rs) = pass_append is_message_byte (spelled s.identifier) s.content (spelled_bytes s.identifier r.kind r.listed) (content_bytes s r)
joined_bytes (s ∷ t ∷ ts) (right_more r rs) =
    pass_append is_message_byte (spelled s.identifier ++ s.content ++ closing s.identifier) (joined (t ∷ ts))
    (pass_append is_message_byte (spelled s.identifier ++ s.content) (closing s.identifier)
    (pass_append is_message_byte (spelled s.identifier) s.content (spelled_bytes s.identifier r.kind r.listed) (content_bytes s r)) (closing_bytes s r))
    (joined_bytes (t ∷ ts) rs)

pub tested_if : (message : List ℕ) → 1 ≤ length message → length message ≤ 48 → first_not is_message_byte message ≡ length message → tested message ≡ parsed message
unfolding tested
tested_if message least most all = rw (le-leb 1 (length message) least, le-leb (length message) 48 most, eq-eqb _ _ all)
