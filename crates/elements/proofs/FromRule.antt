-- What the rule accepts is a message: each string that it finds is right and takes its bytes off the front, what closes it is there, and
-- no identifier was used before.
use Prim.Native.Nat.{ℕ, ◌≤◌}
use mathlib.Core.Path.{◌≡◌, refl, sym, ap, ap₂, ◌∙◌, subst}
use mathlib.Core.Bool.{Bool, true, false, ◌&&◌, or-true}
use mathlib.Core.List.{List, [], ◌∷◌, ◌++◌, map, append_assoc, append-nil}
use native.Mathlib.Omega.{arith}
use lib.ListN.{length, drop}
use lib.Dec.{eqb, leb}
use borrow.Author.Tests.{eqb-true, eq-eqb, leb-true}
use Rattle.laws.specs.First.{first_not}
use Rattle.laws.proofs.Booleans.{both_hold}
use Rattle.refusal.specs.declared.Refusal.TheVariants.{Count, Character}
use Rattle.refusal.specs.Outcome.{made}
use Rattle.refusal.proofs.OutcomeLaws.{must_made}
use Rattle.elements.specs.declared.Element.{Element}
use Rattle.laws.specs.Among.{among}
use Rattle.character_set_82.specs.Characters.{is_message_byte}
use Rattle.identifiers.specs.Identifiers.{spelled}
use Rattle.elements.specs.Strings.{string_at, parsed, tested}
use Rattle.elements.specs.Messages.{ElementString, used_in, AllRight, right_none, right_more, Different, different_none, different_more, closing, joined, IsMessage, string_of}
use Rattle.laws.proofs.AmongLaws.{among_of_nil, among_more, among_append}
use Rattle.elements.proofs.StringLaws.{string_found, next_within}
use Rattle.elements.proofs.WalkLaws.{From, First, first_of, from_start}
use Rattle.elements.proofs.CutLaws.{content_is, right_string, begins, goes_on, at_last, closes}

pub joined_more : (s t : ElementString) (ts : List ElementString) → joined (s ∷ t ∷ ts) ≡ spelled s.identifier ++ s.content ++ closing s.identifier ++ joined (t ∷ ts)
unfolding joined
joined_more s t ts = refl

-- what is known of the strings from a place on, after those whose identifiers are used
record Walked (message : List ℕ) (place : ℕ) (used : List ℕ) (string : Element) (more : List Element) : Type 0 where
  right : AllRight (map (string_of message) (string ∷ more))
  different : Different (map (string_of message) (string ∷ more))
  new : (u : ℕ) → among used u ≡ true → among (used_in (map (string_of message) (string ∷ more))) u ≡ false
  whole : drop place message ≡ joined (map (string_of message) (string ∷ more))

pub regroup : (a b c d : List ℕ) → a ++ (b ++ (c ++ d)) ≡ a ++ b ++ c ++ d
regroup a b c d = sym (simp append_assoc)

-- an identifier that is new is none of those used
new_one : (used : List ℕ) (x u : ℕ) → among used x ≡ false → among used u ≡ true → eqb x u ≡ false
new_one used x u fresh is = go (eqb x u) refl
  where
    go : (b : Bool) → eqb x u ≡ b → b ≡ false
    go false e = refl
    go true e = absurd (let same : x ≡ u = eqb-true x u e in let z : ◌≡◌ {A = ℕ} 0 1 = cc in omega arith)

one_used : (used : List ℕ) (x : ℕ) → among (used ++ (x ∷ [])) x ≡ true
one_used used x = rw (among_append used (x ∷ []) x, among_more x [] x, eq-eqb x x refl) (or-true (among used x))

still_used : (used : List ℕ) (x u : ℕ) → among used u ≡ true → among (used ++ (x ∷ [])) u ≡ true
still_used used x u is = rw (among_append used (x ∷ []) u, is)

module _ (message : List ℕ) (place : ℕ) (used : List ℕ) (string : Element) (within : place ≤ length message) (here : string_at message place ≡ made string) (fresh : among used string.identifier ≡ false) where
  abbrev x : ℕ
  x = string.identifier

  walked_last : string.last ≡ true → Walked message place used string []
  unfolding joined
  walked_last is =
      let f = string_found message place string here in
      record {
        right = right_more (right_string message place string f) right_none;
        different = different_more (among_of_nil x) different_none;
        new = λ u used-u. rw (among_more x [] u, new_one used x u fresh used-u) (among_of_nil u);
        whole =
            begins message place string f
            ∙ ap (λ (rest : List ℕ). spelled x ++ rest)
            (goes_on message place string f ∙ ap₂ (λ (front rest : List ℕ). front ++ rest) (sym (content_is message place string f)) (at_last message place string f is) ∙ append-nil _);
      }

  walked_more : string.last ≡ false → (next : Element) (more : List Element) → Walked message string.next (used ++ (x ∷ [])) next more → Walked message place used string (next ∷ more)
  walked_more goes next more w =
      let f = string_found message place string here in
      record {
        right = right_more (right_string message place string f) w.right;
        different = different_more (w.new x (one_used used x)) w.different;
        new = λ u used-u. rw (among_more x _ u, new_one used x u fresh used-u) (w.new u (still_used used x u used-u));
        whole =
            begins message place string f
            ∙ ap (λ (rest : List ℕ). spelled x ++ rest)
            (goes_on message place string f
            ∙ ap₂ (λ (front rest : List ℕ). front ++ rest) (sym (content_is message place string f))
            (closes message place string f within goes ∙ ap (λ (rest : List ℕ). closing x ++ rest) w.whole))
            ∙ regroup (spelled x) (string_of message string).content (closing x) (joined (map (string_of message) (next ∷ more)))
            ∙ sym (joined_more (string_of message string) (string_of message next) (map (string_of message) more));
      }

-- the strings that the rule finds from a place on
record Walk (message : List ℕ) (place : ℕ) (used : List ℕ) (elements : List Element) : Type 0 where
  string : Element
  more : List Element
  split : elements ≡ string ∷ more
  walked : Walked message place used string more

walk : (message : List ℕ) (place : ℕ) (used : List ℕ) (elements : List Element) → place ≤ length message → From message place used elements → Walk message place used elements
walk message place used [] within from = absurd (omega (arith, ap length (first_of message place [] from).split))
walk message place used (element ∷ elements) within from =
    let f = first_of message place (element ∷ elements) from in
    let same : f.more ≡ elements = cc f.split in
    go f same f.string.last refl
    (λ goes. walk message f.string.next (used ++ (f.string.identifier ∷ [])) elements (next_within message place f.string within f.here goes).0 (rw same at (f.goes goes)))
  where
    go : (f : First message place used (element ∷ elements)) → f.more ≡ elements → (l : Bool) → f.string.last ≡ l → (f.string.last ≡ false → Walk message f.string.next (used ++ (f.string.identifier ∷ [])) elements) → Walk message place used (element ∷ elements)
    go f same true l later =
        record { string = f.string; more = []; split = f.split ∙ ap (λ (es : List Element). f.string ∷ es) (f.ends l); walked = walked_last message place used f.string within f.here f.new l }
    go f same false l later =
        let w = later l in
        record {
          string = f.string;
          more = w.string ∷ w.more;
          split = f.split ∙ ap (λ (es : List Element). f.string ∷ es) (same ∙ w.split);
          walked = walked_more message place used f.string within f.here f.new l w.string w.more w.walked;
        }

pub message_of_parsed : (message : List ℕ) (elements : List Element) → 1 ≤ length message → length message ≤ 48 → parsed message ≡ made elements → IsMessage message (map (string_of message) elements)
message_of_parsed message elements least most e =
    let w = walk message 0 [] elements (omega arith) (from_start message elements e) in
    subst (λ (es : List Element). IsMessage message (map (string_of message) es)) (sym w.split)
    (record { least = least; most = most; right = w.walked.right; different = w.walked.different; whole = w.walked.whole })

-- what the test of a whole message makes, read backwards
pub record Accepted (message : List ℕ) (elements : List Element) : Type 0 where
  pub least : 1 ≤ length message
  pub most : length message ≤ 48
  pub bytes : first_not is_message_byte message ≡ length message
  pub strings : parsed message ≡ made elements

pub tested_made : (message : List ℕ) (elements : List Element) → tested message ≡ made elements → Accepted message elements
unfolding tested
tested_made message elements e =
    let a = must_made (leb 1 (length message) && leb (length message) 48) Count _ elements e in
    let sizes = both_hold (leb 1 (length message)) (leb (length message) 48) a.0 in
    let b = must_made (eqb (first_not is_message_byte message) (length message)) (Character (first_not is_message_byte message)) (parsed message) elements a.1 in
    record { least = leb-true _ _ sizes.0; most = leb-true _ _ sizes.1; bytes = eqb-true _ _ b.0; strings = b.1 }
