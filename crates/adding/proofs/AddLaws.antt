-- Adding to a message, line by line: what closes the message so far is what closes its last string, one separator or nothing, so the
-- tests that a call makes of lengths are the rule's, and what it then writes is the rule's message.
use Rattle.std.specs.Prelude.{Option, Some, None}
use Prim.Native.Nat.{ℕ, ◌+◌, ◌≤◌, ◌<◌}
use mathlib.Core.Path.{◌≡◌, refl, sym, ap, ap₂, ◌∙◌, subst}
use mathlib.Core.Bool.{Bool, true, false, cond, not, ◌||◌}
use mathlib.Core.List.{List, [], ◌∷◌, ◌++◌, map}
use native.Mathlib.Omega.{arith}
use lib.ListN.{length, take, drop, length-append, length-take}
use lib.Seq.{take_at, drop-append-add, drop-drop}
use lib.Dec.{eqb, leb}
use borrow.Author.Tests.{le-leb, lt-leb, leb-true, not-true}
use Rattle.laws.specs.First.{first_not}
use Rattle.laws.specs.Among.{place_in, among}
use Rattle.refusal.specs.declared.Refusal.{Refusal}
use Rattle.refusal.specs.declared.Refusal.TheVariants.{Count, Identifier, Data, Repeated, Sequence}
use Rattle.refusal.specs.Outcome.{Outcome, made, refused, ◌>>=◌, ◌>>◌, must}
use Rattle.refusal.specs.Fills.{laying}
use Rattle.refusal.proofs.OutcomeLaws.{made_same, must_made}
use Rattle.elements.specs.declared.Element.{Element}
use Rattle.identifiers.specs.declared.Kind.{Kind}
use Rattle.character_set_82.specs.Characters.{separator}
use Rattle.identifiers.specs.Identifiers.{kind_of, spelled}
use Rattle.identifiers.specs.Data.{right_data}
use Rattle.elements.specs.Strings.{given, tested}
use Rattle.elements.specs.Messages.{closing_of, closing}
use Rattle.elements.specs.Found.{sought}
use Rattle.adding.specs.Adding.{sofar, closed, unused_in, judged, added, adds}
use Rattle.laws.proofs.AmongLaws.{among_of_nil, among_more}
use Rattle.identifiers.proofs.DecisionLaws.{spelling_of}
use Rattle.identifiers.proofs.ListedLaws.{listed_if_kind}
use Rattle.elements.proofs.StringLaws.{given_made}
use Rattle.elements.proofs.FromRule.{tested_made}
use Rattle.elements.proofs.WalkLaws.{first_of, from_start}
use Rattle.elements.proofs.TestRefusals.{of_message, Only, Others, only_made, only_tested, only_given, only_must, bind_passed, must_passed, others_made}

-- the message so far: none, or one that was tested
pub sofar_none : (old : List ℕ) → length old < 1 → old ≡ []
sofar_none [] h = refl
sofar_none (byte ∷ bytes) h = absurd (omega arith)

pub sofar_tested : (old : List ℕ) → 1 ≤ length old → sofar old ≡ tested old
sofar_tested [] h = absurd (omega arith)
sofar_tested (byte ∷ bytes) h = refl

only_sofar : (old : List ℕ) → Only of_message (sofar old)
only_sofar [] = only_made of_message []
only_sofar (byte ∷ bytes) = only_tested (byte ∷ bytes)

only_unused : (strings : List Element) (x count : ℕ) → Only of_message (unused_in strings x count)
unfolding unused_in place_in first_not
only_unused strings x count =
    only_must of_message (not (among (map (λ (s : Element). s.identifier) strings) x)) (Repeated count) _ refl (only_made of_message (closed strings))

-- whether an identifier was used, and what closes the strings, by the string of the identifier or else the last
module _ (x count : ℕ) where
  abbrev pub after : Element → Outcome (List ℕ)
  after string = must (not (eqb string.identifier x)) (Repeated count) >> made (closing string.identifier)

  unused_more : (string : Element) (more : List Element) → unused_in (string ∷ more) x count ≡ (sought x (string ∷ more) >>= after)
  unfolding unused_in sought
  unused_more string [] = rw (among_more string.identifier [] x, among_of_nil x) (go (eqb string.identifier x))
    where
      go : (b : Bool) → (must (not (b || false)) (Repeated count) >> made (closing string.identifier)) ≡ (must (not b) (Repeated count) >> made (closing string.identifier))
      go true = refl
      go false = refl
  unused_more string (next ∷ more) = rw (among_more string.identifier (map (λ (s : Element). s.identifier) (next ∷ more)) x) (go (eqb string.identifier x) refl (unused_more next more))
    where
      go : (b : Bool) → eqb string.identifier x ≡ b → unused_in (next ∷ more) x count ≡ (sought x (next ∷ more) >>= after)
          → (must (not (b || among (map (λ (s : Element). s.identifier) (next ∷ more)) x)) (Repeated count) >> made (closed (next ∷ more))) ≡ (cond b (made string) (sought x (next ∷ more)) >>= after)
      go true p later = rw p
      go false p later = later

  pub unused_sought : (old : List ℕ) (strings : List Element) → 1 ≤ length old → sofar old ≡ made strings → unused_in strings x count ≡ (sought x strings >>= after)
  unused_sought old strings h e =
      let first = first_of old 0 strings (from_start old strings (tested_made old strings (sym (sofar_tested old h) ∙ e)).strings) in
      subst (λ (ss : List Element). unused_in ss x count ≡ (sought x ss >>= after)) (sym first.split) (unused_more first.string first.more)

-- what closes a message is one separator or nothing
closing_take : (x : ℕ) → closing x ≡ take (length (closing x)) (separator ∷ [])
unfolding closing
closing_take x = go (kind_of x)
  where
    either : (p : Bool) → cond p [] (separator ∷ []) ≡ take (length {A = ℕ} (cond p [] (separator ∷ []))) (separator ∷ [])
    either true = refl
    either false = refl

    go : (o : Option Kind) → closing_of o ≡ take (length (closing_of o)) (separator ∷ [])
    go None = refl
    go (Some kind) = either kind.predefined

closed_take : (strings : List Element) → closed strings ≡ take (length (closed strings)) (separator ∷ [])
closed_take [] = refl
closed_take (string ∷ []) = closing_take string.identifier
closed_take (string ∷ next ∷ strings) = closed_take (next ∷ strings)

-- what an identifier that was not used says
unused_made : (strings : List Element) (x count : ℕ) (between : List ℕ) → unused_in strings x count ≡ made between → (among (map (λ (s : Element). s.identifier) strings) x ≡ false) × (closed strings ≡ between)
unfolding unused_in
unused_made strings x count between e =
    let m = must_made (not (among (map (λ (s : Element). s.identifier) strings) x)) (Repeated count) (made (closed strings)) between e in
    (not-true _ m.0, made_same _ _ m.1)

pub unused_short : (strings : List Element) (x count : ℕ) (between : List ℕ) → unused_in strings x count ≡ made between → length between ≤ 1
unused_short strings x count between e =
    let is = (unused_made strings x count between e).1 in
    omega (arith, ap length is, ap length (closed_take strings), length-take (length (closed strings)) (separator ∷ []))

pub length_of_four : (a b c d : List ℕ) → length (a ++ b ++ c ++ d) ≡ length a + length b + length c + length d
length_of_four a b c d = omega (arith, length-append (a ++ b ++ c) d, length-append (a ++ b) c, length-append a b)

module _ (old : List ℕ) (x : ℕ) (content : List ℕ) where
  -- the lines of the rule, one after the other
  pub judged_old : (f : Refusal) → sofar old ≡ refused f → judged old x content ≡ refused f
  unfolding judged
  judged_old f e = rw e

  module _ (strings : List Element) (right : sofar old ≡ made strings) where
    pub judged_unlisted : kind_of x ≡ None → judged old x content ≡ refused (Identifier (length old))
    unfolding judged
    judged_unlisted e = rw (right, e)

    module _ (kind : Kind) (listed : kind_of x ≡ Some kind) where
      pub judged_wrong : right_data kind content ≡ false → judged old x content ≡ refused (Data (length old))
      unfolding judged
      judged_wrong e = rw (right, listed, e)

      module _ (good : right_data kind content ≡ true) where
        pub judged_used : (f : Refusal) → unused_in strings x (length old) ≡ refused f → judged old x content ≡ refused f
        unfolding judged
        judged_used f e = rw (right, listed, good, e)

        module _ (between : List ℕ) (unused : unused_in strings x (length old) ≡ made between) where
          pub judged_over : 48 < length old + length between + length (spelled x) + length content → judged old x content ≡ refused Sequence
          unfolding judged
          judged_over h =
              let long : 48 < length (old ++ between ++ spelled x ++ content) = rw length_of_four h in
              rw (right, listed, good, unused, lt-leb _ 48 long)

          pub judged_made : length old + length between + length (spelled x) + length content ≤ 48 → judged old x content ≡ made between
          unfolding judged
          judged_made h =
              let short : length (old ++ between ++ spelled x ++ content) ≤ 48 = rw length_of_four h in
              rw (right, listed, good, unused, le-leb _ 48 short)

  -- what is known where all but the last have passed: the last decides
  pub record Passed (o : Outcome (List ℕ)) : Type 0 where
    pub strings : List Element
    pub so_far : sofar old ≡ made strings
    pub kind : Kind
    pub listed : kind_of x ≡ Some kind
    pub right : right_data kind content ≡ true
    pub new : among (map (λ (s : Element). s.identifier) strings) x ≡ false
    pub last : (must (leb (length (old ++ closed strings ++ spelled x ++ content)) 48) Sequence >> made (closed strings)) ≡ o

  pub judged_passed : (o : Outcome (List ℕ)) → Others of_message o → judged old x content ≡ o → Passed o
  unfolding judged place_in first_not
  judged_passed o others e =
      let a = bind_passed of_message (sofar old) _ o (only_sofar old) others e in
      let b = bind_passed of_message (given (kind_of x) (Identifier (length old))) _ o (only_given of_message (kind_of x) (Identifier (length old)) refl) others a.2 in
      let c = must_passed of_message (right_data b.0 content) (Data (length old)) _ o refl others b.2 in
      let d = bind_passed of_message (unused_in a.0 x (length old)) _ o (only_unused a.0 x (length old)) others c.1 in
      let u = unused_made a.0 x (length old) d.0 d.1 in
      record {
        strings = a.0;
        so_far = a.1;
        kind = b.0;
        listed = given_made (kind_of x) (Identifier (length old)) b.0 b.1;
        right = c.0;
        new = u.0;
        last = rw u.1 d.2;
      }

  -- what is known where all of them have
  pub record Fits (between : List ℕ) : Type 0 where
    pub short : length between ≤ 1
    pub is_take : between ≡ take (length between) (separator ∷ [])
    pub small : x < 10000
    pub most : length old + length between + length (spelled x) + length content ≤ 48

  pub judged_fits : (between : List ℕ) → judged old x content ≡ made between → Fits between
  judged_fits between e =
      let p = judged_passed (made between) (others_made of_message between) e in
      let m = must_made (leb (length (old ++ closed p.strings ++ spelled x ++ content)) 48) Sequence (made (closed p.strings)) between p.last in
      let is : closed p.strings ≡ between = made_same _ _ m.1 in
      let most : length (old ++ closed p.strings ++ spelled x ++ content) ≤ 48 = leb-true _ 48 m.0 in
      let take-is = subst (λ (bytes : List ℕ). bytes ≡ take (length bytes) (separator ∷ [])) is (closed_take p.strings) in
      record {
        short = omega (arith, ap length take-is, length-take (length between) (separator ∷ []));
        is_take = take-is;
        small = (spelling_of x (listed_if_kind x p.kind p.listed)).small;
        most = omega (arith, length_of_four old (closed p.strings) (spelled x) content, ap length is);
      }

-- adding to a buffer
module _ (buffer : List ℕ) (count x : ℕ) (content : List ℕ) where
  pub adds_over : 48 < count → adds buffer count x content ≡ refused Count
  unfolding adds
  adds_over h = rw (lt-leb count 48 h)

  pub adds_beyond : count ≤ 48 → length buffer < count → adds buffer count x content ≡ refused Count
  unfolding adds
  adds_beyond h b = rw (le-leb count 48 h, lt-leb count (length buffer) b)

  module _ (h : count ≤ 48) (b : count ≤ length buffer) where
    pub adds_refused : (f : Refusal) → judged (take count buffer) x content ≡ refused f → adds buffer count x content ≡ refused f
    unfolding adds added
    adds_refused f e = rw (le-leb count 48 h, le-leb count (length buffer) b, e)

    pub adds_laying : (between : List ℕ) → judged (take count buffer) x content ≡ made between → adds buffer count x content ≡ laying (take count buffer ++ between ++ spelled x ++ content) (length buffer)
    unfolding adds added
    adds_laying between e = rw (le-leb count 48 h, le-leb count (length buffer) b, e)

-- bytes put where a front that was written ends: the rest is still as it was lent
pub put_next : (lent done bytes held : List ℕ) (at end : ℕ) → held ≡ done ++ drop at lent → length done ≡ at → end ≡ at + length bytes → take at held ++ bytes ++ drop end held ≡ done ++ bytes ++ drop end lent
put_next lent done bytes held at end is long e =
    let rest = drop-append-add done (drop (length done) lent) (length bytes) ∙ drop-drop (length bytes) (length done) lent in
    rw is (ap₂ (λ (front back : List ℕ). front ++ bytes ++ back) (take_at done (drop at lent) at long) (rw (e, ← long) rest))
