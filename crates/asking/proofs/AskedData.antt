-- Theorem 5 of the design: asking gives the data of that identifier's string exactly where the message has one, and a refusal in every
-- other case; since right data is never empty, the part is empty only where there is a refusal.
use Prim.Native.Nat.{ℕ}
use mathlib.Core.Path.{◌≡◌, refl, sym, ap, ◌∙◌, subst}
use mathlib.Core.Bool.{Bool, true, false, ◌||◌, or-true}
use mathlib.Core.List.{List, [], ◌∷◌, ◌++◌, map}
use native.Mathlib.Omega.{arith}
use lib.ListN.{length, drop, length-drop}
use lib.Seq.{length-take-le}
use lib.Dec.{eqb}
use borrow.Author.Tests.{eq-eqb, eqb-true, eqb-false}
use Rattle.refusal.specs.declared.Refusal.{Refusal}
use Rattle.refusal.specs.declared.Refusal.TheVariants.{Absent}
use Rattle.refusal.specs.Outcome.{Outcome, made, refused}
use Rattle.refusal.proofs.OutcomeLaws.{made_not_refused, bind_made, made_same}
use Rattle.elements.specs.declared.Element.{Element}
use Rattle.laws.specs.Among.{among}
use Rattle.elements.specs.Strings.{tested}
use Rattle.elements.specs.Messages.{ElementString, used_in, Different, different_more, IsMessage, string_of}
use Rattle.asking.specs.Asking.{named, asked, part_of}
use Rattle.laws.proofs.AmongLaws.{among_more}
use Rattle.elements.proofs.Theorems.{strings_of_accepted, accepted_of_strings}
use Rattle.asking.proofs.AskLaws.{named_here, named_later, named_none, asked_named, asked_stands, part_within, part_some}

-- a string among others is one of those named
among_in : (before : List ElementString) (s : ElementString) (after : List ElementString) → among (used_in (before ++ s ∷ after)) s.identifier ≡ true
among_in [] s after = rw (among_more s.identifier (used_in after) s.identifier, eq-eqb s.identifier s.identifier refl)
among_in (t ∷ before) s after =
    rw (among_more t.identifier (used_in (before ++ s ∷ after)) s.identifier, among_in before s after) (or-true (eqb t.identifier s.identifier))

module _ (message : List ℕ) where
  abbrev shown : List Element → List ElementString
  shown elements = map (string_of message) elements

  -- the string that is found, among strings that differ
  named_in : (elements : List Element) (before : List ElementString) (s : ElementString) (after : List ElementString) → shown elements ≡ before ++ s ∷ after → Different (before ++ s ∷ after) → (element : Element) × (named s.identifier elements ≡ made element) × (string_of message element ≡ s)
  named_in [] [] s after e d = absurd (omega (arith, ap length e))
  named_in [] (t ∷ before) s after e d = absurd (omega (arith, ap length e))
  named_in (element ∷ elements) [] s after e d =
      let is : string_of message element ≡ s = cc in
      (element, named_here s.identifier element elements (ap (λ (t : ElementString). t.identifier) is), is)
  named_in (element ∷ elements) (t ∷ before) s after e (different_more d ds) =
      let is : string_of message element ≡ t = cc in
      let rest : shown elements ≡ before ++ s ∷ after = cc in
      let later = named_in elements before s after rest ds in
      let other : element.identifier ≡ s.identifier → ⊥ = λ (same : element.identifier ≡ s.identifier).
      let there = among_in before s after in
      let own : t.identifier ≡ s.identifier = sym (ap (λ (u : ElementString). u.identifier) is) ∙ same in
      let no = rw own at d in
      let z : ◌≡◌ {A = ℕ} 0 1 = cc in omega arith in
      (later.0, named_later s.identifier element elements other ∙ later.1, later.2)

  named_absent : (elements : List Element) (x : ℕ) → among (used_in (shown elements)) x ≡ false → named x elements ≡ refused Absent
  named_absent [] x e = named_none x
  named_absent (element ∷ elements) x e = go (eqb element.identifier x) refl (rw (among_more element.identifier (used_in (shown elements)) x) at e) (named_absent elements x)
    where
      go : (b : Bool) → eqb element.identifier x ≡ b → (b || among (used_in (shown elements)) x) ≡ false → (among (used_in (shown elements)) x ≡ false → named x elements ≡ refused Absent) → named x (element ∷ elements) ≡ refused Absent
      go true p e later = absurd (let z : ◌≡◌ {A = ℕ} 0 1 = cc in omega arith)
      go false p e later = named_later x element elements (eqb-false _ _ p) ∙ later e

  in_named : (elements : List Element) (x : ℕ) (element : Element) → named x elements ≡ made element → (before : List ElementString) × (after : List ElementString) × (shown elements ≡ before ++ string_of message element ∷ after) × (element.identifier ≡ x)
  in_named [] x element e = absurd (made_not_refused element Absent (sym e ∙ named_none x))
  in_named (first ∷ elements) x element e = go (eqb first.identifier x) refl (in_named elements x element)
    where
      go : (b : Bool) → eqb first.identifier x ≡ b
          → (named x elements ≡ made element → (before : List ElementString) × (after : List ElementString) × (shown elements ≡ before ++ string_of message element ∷ after) × (element.identifier ≡ x))
          → (before : List ElementString) × (after : List ElementString) × (shown (first ∷ elements) ≡ before ++ string_of message element ∷ after) × (element.identifier ≡ x)
      go true p later =
          let is : first ≡ element = made_same _ _ (sym (named_here x first elements (eqb-true _ _ p)) ∙ e) in
          ([], shown elements, ap (λ (t : Element). string_of message t ∷ shown elements) is, sym (ap (λ (t : Element). t.identifier) is) ∙ eqb-true _ _ p)
      go false p later =
          let l = later (sym (named_later x first elements (eqb-false _ _ p)) ∙ e) in
          (string_of message first ∷ l.0, l.1, ap (λ (ss : List ElementString). string_of message first ∷ ss) l.2, l.3)

  -- where the message has a string of the identifier, it is found, and the part is its data
  pub asked_of_string : (before : List ElementString) (s : ElementString) (after : List ElementString) → IsMessage message (before ++ s ∷ after) → (element : Element) × (asked message s.identifier ≡ made element) × (part_of message (asked message s.identifier) ≡ s.content)
  asked_of_string before s after m =
      let a = accepted_of_strings message (before ++ s ∷ after) m in
      let n = named_in a.0 before s after a.2 m.different in
      let is : asked message s.identifier ≡ made n.0 = asked_named message s.identifier a.0 a.1 ∙ n.1 in
      (n.0, is, ap (part_of message) is ∙ ap (λ (t : ElementString). t.content) n.2)

  -- where it has none, the refusal is 13
  pub asked_of_none : (strings : List ElementString) (x : ℕ) → IsMessage message strings → among (used_in strings) x ≡ false → asked message x ≡ refused Absent
  asked_of_none strings x m e =
      let a = accepted_of_strings message strings m in
      asked_named message x a.0 a.1 ∙ named_absent a.0 x (subst (λ (ss : List ElementString). among (used_in ss) x ≡ false) (sym a.2) e)

  -- what is found is a string of the message, with that identifier
  pub string_of_asked : (x : ℕ) (element : Element) → asked message x ≡ made element → (before : List ElementString) × (after : List ElementString) × IsMessage message (before ++ string_of message element ∷ after) × (element.identifier ≡ x)
  unfolding asked
  string_of_asked x element e =
      let a = bind_made (tested message) _ element e in
      let n = in_named a.0 x element a.2 in
      (n.0, n.1, subst (IsMessage message) n.2 (strings_of_accepted message a.0 a.1), n.3)

  -- the part's length is the companion's count
  pub part_length : (x : ℕ) (element : Element) → asked message x ≡ made element → length (part_of message (asked message x)) ≡ element.length
  part_length x element e =
      let inside = part_within message element (asked_stands message x element e) in
      ap (λ (o : Outcome Element). length (part_of message o)) e ∙ length-take-le element.length (drop element.begin message) (omega (arith, length-drop element.begin message))

  -- and an empty part is a refusal
  pub empty_if_refused : (x : ℕ) → part_of message (asked message x) ≡ [] → (f : Refusal) × (asked message x ≡ refused f)
  empty_if_refused x e = go (asked message x) refl
    where
      go : (o : Outcome Element) → asked message x ≡ o → (f : Refusal) × (o ≡ refused f)
      go (refused f) p = (f, refl)
      go (made element) p = absurd (omega (arith, ap length e, part_length x element p, part_some message element (asked_stands message x element p)))
