-- Theorem 4 of the design, second half: strings joined with one more are what was joined, what closes it, and the new string's bytes; so
-- adding to a message gives the message of its strings and the new one, and adding the strings of a message one by one in a buffer lays
-- the message there.
use Prim.Native.Nat.{ℕ, ◌+◌, ◌-◌, ◌≤◌}
use mathlib.Core.Path.{◌≡◌, refl, sym, ap, ap₂, ◌∙◌, subst}
use mathlib.Core.Bool.{Bool, true, false, ◌||◌}
use mathlib.Core.List.{List, [], ◌∷◌, ◌++◌, map, append_assoc, append-nil}
use native.Mathlib.Omega.{arith}
use lib.ListN.{length, drop, length-append, length-drop}
use lib.Seq.{take-append_seam, drop-append-add, drop-drop}
use lib.Dec.{eqb, leb}
use borrow.Author.Tests.{eqb-false, ne_eqb, le-leb, leb-true}
use Rattle.refusal.specs.declared.Refusal.TheVariants.{Sequence}
use Rattle.refusal.specs.Outcome.{made}
use Rattle.refusal.proofs.OutcomeLaws.{must_made, bind_made, made_same}
use Rattle.refusal.proofs.FillsLaws.{laying_made}
use Rattle.elements.specs.declared.Element.{Element}
use Rattle.laws.specs.Among.{among}
use Rattle.identifiers.specs.Identifiers.{spelled}
use Rattle.elements.specs.Strings.{tested}
use Rattle.elements.specs.Messages.{ElementString, used_in, Right, AllRight, right_none, right_more, Different, different_none, different_more, closing, joined, IsMessage, string_of}
use Rattle.adding.specs.Adding.{sofar, closed, unused_in, judged, added, adds, built_in, adds_all, SoFar, fresh, begun}
use Rattle.laws.proofs.AmongLaws.{among_of_nil, among_more, among_append}
use Rattle.elements.proofs.FromRelation.{joined_some}
use Rattle.elements.proofs.Theorems.{strings_of_accepted, accepted_of_strings}
use Rattle.elements.proofs.TestRefusals.{of_message, others_made}
use Rattle.adding.proofs.AddLaws.{sofar_tested, judged_passed}

-- what closes the last of some strings
abbrev closing_last : List ElementString → List ℕ
closing_last [] = []
closing_last (s ∷ []) = closing s.identifier
closing_last (s ∷ t ∷ ts) = closing_last (t ∷ ts)

closed_shown : (message : List ℕ) (elements : List Element) → closed elements ≡ closing_last (map (string_of message) elements)
closed_shown message [] = refl
closed_shown message (e ∷ []) = refl
closed_shown message (e ∷ f ∷ es) = closed_shown message (f ∷ es)

pub used_shown : (message : List ℕ) (elements : List Element) → map (λ (e : Element). e.identifier) elements ≡ used_in (map (string_of message) elements)
used_shown message [] = refl
used_shown message (e ∷ es) = ap (λ (xs : List ℕ). e.identifier ∷ xs) (used_shown message es)

-- strings, and one more after them
joined_snoc : (ss : List ElementString) (s : ElementString) → joined (ss ++ (s ∷ [])) ≡ joined ss ++ closing_last ss ++ spelled s.identifier ++ s.content
unfolding joined
joined_snoc [] s = refl
joined_snoc (t ∷ []) s = sym (append_assoc (spelled t.identifier ++ t.content ++ closing t.identifier) (spelled s.identifier) s.content)
joined_snoc (t ∷ u ∷ us) s =
    let front = spelled t.identifier ++ t.content ++ closing t.identifier in
    let a = joined (u ∷ us) in
    let b = closing_last (u ∷ us) in
    let c = spelled s.identifier in
    let d = s.content in
    ap (λ (rest : List ℕ). front ++ rest) (joined_snoc (u ∷ us) s)
    ∙ sym (append_assoc front (a ++ b ++ c) d)
    ∙ ap (λ (rest : List ℕ). rest ++ d) (sym (append_assoc front (a ++ b) c))
    ∙ ap (λ (rest : List ℕ). rest ++ c ++ d) (sym (append_assoc front a b))

right_snoc : (ss : List ElementString) (s : ElementString) → AllRight ss → Right s → AllRight (ss ++ (s ∷ []))
right_snoc [] s rs r = right_more r right_none
right_snoc (t ∷ ts) s (right_more q rs) r = right_more q (right_snoc ts s rs r)

used_append : (ss bs : List ElementString) → used_in (ss ++ bs) ≡ used_in ss ++ used_in bs
used_append [] bs = refl
used_append (t ∷ ts) bs = ap (λ (xs : List ℕ). t.identifier ∷ xs) (used_append ts bs)

neither : (a b : Bool) → (a || b) ≡ false → (a ≡ false) × (b ≡ false)
neither true b e = absurd (let z : ◌≡◌ {A = ℕ} 0 1 = cc in omega arith)
neither false b e = (refl, e)

turned : (x y : ℕ) → eqb x y ≡ false → eqb y x ≡ false
turned x y e = ne_eqb y x (λ (same : y ≡ x). eqb-false x y e (sym same))

-- an identifier that is new among some strings and others is new among each
new_in_both : (ss bs : List ElementString) (x : ℕ) → among (used_in (ss ++ bs)) x ≡ false → (among (used_in ss) x ≡ false) × (among (used_in bs) x ≡ false)
new_in_both ss bs x e = neither (among (used_in ss) x) (among (used_in bs) x) (sym (ap (λ (xs : List ℕ). among xs x) (used_append ss bs) ∙ among_append (used_in ss) (used_in bs) x) ∙ e)

new_first : (s : ElementString) (ss : List ElementString) (x : ℕ) → among (used_in (s ∷ ss)) x ≡ false → (eqb s.identifier x ≡ false) × (among (used_in ss) x ≡ false)
new_first s ss x e = neither (eqb s.identifier x) (among (used_in ss) x) (sym (among_more s.identifier (used_in ss) x) ∙ e)

different_snoc : (ss : List ElementString) (s : ElementString) → Different ss → among (used_in ss) s.identifier ≡ false → Different (ss ++ (s ∷ []))
different_snoc [] s ds e = different_more (among_of_nil s.identifier) different_none
different_snoc (t ∷ ts) s (different_more d ds) e =
    let x = t.identifier in
    let new = new_first t ts s.identifier e in
    let apart : among (used_in (ts ++ (s ∷ []))) x ≡ false = rw (used_append ts (s ∷ []), among_append (used_in ts) (s.identifier ∷ []) x, d, among_more s.identifier [] x, turned x s.identifier new.0) (among_of_nil x) in
    different_more apart (different_snoc ts s ds new.1)

-- the strings so far, as the rule finds them
sofar_of : (old : List ℕ) (ss : List ElementString) → SoFar old ss → (elements : List Element) × (sofar old ≡ made elements) × (map (string_of old) elements ≡ ss)
sofar_of old ss fresh = ([], refl, refl)
sofar_of old ss (begun m) =
    let a = accepted_of_strings old ss m in
    (a.0, sofar_tested old m.least ∙ a.1, a.2)

pub of_sofar : (old : List ℕ) (elements : List Element) → sofar old ≡ made elements → SoFar old (map (string_of old) elements)
of_sofar [] elements e = subst (λ (es : List Element). SoFar [] (map (string_of []) es)) (made_same [] elements e) fresh
of_sofar (byte ∷ bytes) elements e = begun (strings_of_accepted (byte ∷ bytes) elements e)

joined_sofar : (old : List ℕ) (ss : List ElementString) → SoFar old ss → old ≡ joined ss
unfolding joined
joined_sofar old ss fresh = refl
joined_sofar old ss (begun m) = m.whole

right_sofar : (old : List ℕ) (ss : List ElementString) → SoFar old ss → AllRight ss × Different ss
right_sofar old ss fresh = (right_none, different_none)
right_sofar old ss (begun m) = (m.right, m.different)

-- the bytes that the rule makes are those of the strings so far and the new one
pub whole_of : (old : List ℕ) (elements : List Element) (s : ElementString) → sofar old ≡ made elements → old ++ closed elements ++ spelled s.identifier ++ s.content ≡ joined (map (string_of old) elements ++ (s ∷ []))
whole_of old elements s e =
    ap₂ (λ (front back : List ℕ). front ++ back ++ spelled s.identifier ++ s.content) (joined_sofar old _ (of_sofar old elements e)) (closed_shown old elements)
    ∙ sym (joined_snoc (map (string_of old) elements) s)

-- Adding a right string of a new identifier to a message gives the message of its strings and the new one.
pub added_of_strings : (old : List ℕ) (ss : List ElementString) (s : ElementString) → SoFar old ss → Right s → among (used_in ss) s.identifier ≡ false → length (joined (ss ++ (s ∷ []))) ≤ 48 → added old s.identifier s.content ≡ made (joined (ss ++ (s ∷ [])))
unfolding added judged unused_in
added_of_strings old ss s so r apart h =
    let a = sofar_of old ss so in
    let x = s.identifier in
    let names : among (map (λ (e : Element). e.identifier) a.0) x ≡ false = ap (λ (xs : List ℕ). among xs x) (used_shown old a.0 ∙ ap used_in a.2) ∙ apart in
    let whole : old ++ closed a.0 ++ spelled x ++ s.content ≡ joined (ss ++ (s ∷ [])) = whole_of old a.0 s a.1 ∙ ap (λ (ts : List ElementString). joined (ts ++ (s ∷ []))) a.2 in
    rw (a.1, r.listed, r.right, names, whole, le-leb (length (joined (ss ++ (s ∷ [])))) 48 h) (ap made whole)

-- What adding makes is a message: that of the strings so far and the new one.
pub message_of_added : (old : List ℕ) (x : ℕ) (content new : List ℕ) → added old x content ≡ made new → (ss : List ElementString) × SoFar old ss × IsMessage new (ss ++ (record { identifier = x; content = content } ∷ []))
unfolding added
message_of_added old x content new e =
    let j = bind_made (judged old x content) _ new e in
    let p = judged_passed old x content (made j.0) (others_made of_message j.0) j.1 in
    let m = must_made (leb (length (old ++ closed p.strings ++ spelled x ++ content)) 48) Sequence (made (closed p.strings)) j.0 p.last in
    let is : old ++ closed p.strings ++ spelled x ++ content ≡ new = ap (λ (between : List ℕ). old ++ between ++ spelled x ++ content) (made_same _ _ m.1) ∙ made_same _ _ j.2 in
    let s : ElementString = record { identifier = x; content = content } in
    let ss = map (string_of old) p.strings in
    let so : SoFar old ss = of_sofar old p.strings p.so_far in
    let both = right_sofar old ss so in
    let right = right_snoc ss s both.0 (record { kind = p.kind; listed = p.listed; right = p.right }) in
    let whole : new ≡ joined (ss ++ (s ∷ [])) = sym is ∙ whole_of old p.strings s p.so_far in (
      ss,
      so,
      record {
        least = subst (λ (bytes : List ℕ). 1 ≤ length bytes) (sym whole) (joined_one ss s right);
        most = subst (λ (bytes : List ℕ). length bytes ≤ 48) is (leb-true _ 48 m.0);
        right = right;
        different = different_snoc ss s both.1 (sym (ap (λ (xs : List ℕ). among xs x) (used_shown old p.strings)) ∙ p.new);
        whole = whole;
      },
    )
  where
    joined_one : (ss : List ElementString) (s : ElementString) → AllRight (ss ++ (s ∷ [])) → 1 ≤ length (joined (ss ++ (s ∷ [])))
    joined_one [] s rs = omega (arith, joined_some s [] rs)
    joined_one (t ∷ ts) s rs = omega (arith, joined_some t (ts ++ (s ∷ [])) rs)

-- So the test accepts it, with those strings.
pub added_is_accepted : (old : List ℕ) (x : ℕ) (content new : List ℕ) → added old x content ≡ made new → (elements : List Element) × (tested new ≡ made elements)
added_is_accepted old x content new e =
    let m = message_of_added old x content new e in
    let a = accepted_of_strings new (m.0 ++ (record { identifier = x; content = content } ∷ [])) m.2 in
    (a.0, a.1)

-- the first of some strings: right, different, and no longer than all of them
right_front : (ss bs : List ElementString) → AllRight (ss ++ bs) → AllRight ss
right_front [] bs rs = right_none
right_front (t ∷ ts) bs (right_more r rs) = right_more r (right_front ts bs rs)

different_front : (ss bs : List ElementString) → Different (ss ++ bs) → Different ss
different_front [] bs ds = different_none
different_front (t ∷ ts) bs (different_more d ds) = different_more (new_in_both ts bs t.identifier d).0 (different_front ts bs ds)

joined_front : (ss bs : List ElementString) → length (joined ss) ≤ length (joined (ss ++ bs))
unfolding joined
joined_front [] bs = omega arith
joined_front (t ∷ []) [] = omega arith
joined_front (t ∷ []) (b ∷ bs) =
    omega (arith, length-append (spelled t.identifier ++ t.content ++ closing t.identifier) (joined (b ∷ bs)), length-append (spelled t.identifier ++ t.content) (closing t.identifier))
joined_front (t ∷ u ∷ us) bs =
    let front = spelled t.identifier ++ t.content ++ closing t.identifier in
    omega (arith, joined_front (u ∷ us) bs, length-append front (joined (u ∷ us)), length-append front (joined (u ∷ us ++ bs)))

sofar_front : (ss bs : List ElementString) → AllRight (ss ++ bs) → Different (ss ++ bs) → length (joined (ss ++ bs)) ≤ 48 → SoFar (joined ss) ss
unfolding joined
sofar_front [] bs rs ds h = fresh
sofar_front (t ∷ ts) bs rs ds h =
    let right = right_front (t ∷ ts) bs rs in
    begun {old = joined (t ∷ ts)} (record { least = omega (arith, joined_some t ts right); most = omega (arith, joined_front (t ∷ ts) bs); right = right; different = different_front (t ∷ ts) bs ds; whole = refl })

-- and the next of them: right, and of another identifier
next_right : (ss : List ElementString) (s : ElementString) (bs : List ElementString) → AllRight (ss ++ s ∷ bs) → Right s
next_right [] s bs (right_more r rs) = r
next_right (t ∷ ts) s bs (right_more q rs) = next_right ts s bs rs

next_new : (ss : List ElementString) (s : ElementString) (bs : List ElementString) → Different (ss ++ s ∷ bs) → among (used_in ss) s.identifier ≡ false
next_new [] s bs ds = among_of_nil s.identifier
next_new (t ∷ ts) s bs (different_more d ds) =
    let apart = (new_first s bs t.identifier (new_in_both ts (s ∷ bs) t.identifier d).1).0 in
    rw (among_more t.identifier (used_in ts) s.identifier, turned s.identifier t.identifier apart) (next_new ts s bs ds)

-- a buffer that was lent, with a message at its front
module _ (lent : List ℕ) where
  abbrev holding : List ℕ → List ℕ
  holding message = message ++ drop (length message) lent

  holding_long : (message : List ℕ) → length message ≤ length lent → length (holding message) ≡ length lent
  holding_long message h = omega (arith, length-append message (drop (length message) lent), length-drop (length message) lent)

  -- where a longer one is laid over it, the rest is still as it was
  laid_over : (old new : List ℕ) → length old ≤ length new → new ++ drop (length new) (holding old) ≡ holding new
  laid_over old new h =
      let k = length new - length old in
      let size : length old + k ≡ length new = omega arith in
      ap (λ (rest : List ℕ). new ++ rest)
      (ap (λ (n : ℕ). drop n (holding old)) (sym size) ∙ drop-append-add old (drop (length old) lent) k ∙ drop-drop k (length old) lent ∙ ap (λ (n : ℕ). drop n lent) size)

  adds_next : (old new : List ℕ) (x : ℕ) (content : List ℕ) → length old ≤ 48 → length old ≤ length lent → length new ≤ length lent → added old x content ≡ made new → adds (holding old) (length old) x content ≡ made new
  unfolding adds
  adds_next old new x content most within fits e =
      let size = holding_long old within in
      rw (le-leb (length old) 48 most, le-leb (length old) (length (holding old)) (omega arith), take-append_seam old (drop (length old) lent), e) (laying_made new (length (holding old)) (omega arith))

  -- strings added one by one to those before them
  adds_on : (bs ss : List ElementString) → AllRight (ss ++ bs) → Different (ss ++ bs) → length (joined (ss ++ bs)) ≤ 48 → length (joined (ss ++ bs)) ≤ length lent → adds_all (holding (joined ss)) (length (joined ss)) bs ≡ made (built_in lent (joined (ss ++ bs)))
  unfolding adds_all
  adds_on [] ss rs ds most fits = rw append-nil
  adds_on (s ∷ bs) ss rs ds most fits =
      let old = joined ss in
      let new = joined (ss ++ (s ∷ [])) in
      let all : ss ++ (s ∷ bs) ≡ ss ++ (s ∷ []) ++ bs = sym (append_assoc ss (s ∷ []) bs) in
      let few : length new ≤ length (joined (ss ++ (s ∷ bs))) = rw all (joined_front (ss ++ (s ∷ [])) bs) in
      let grows = joined_front ss (s ∷ []) in
      let one = added_of_strings old ss s (sofar_front ss (s ∷ bs) rs ds most) (next_right ss s bs rs) (next_new ss s bs ds) (omega arith) in
      rw (adds_next old new s.identifier s.content (omega arith) (omega arith) (omega arith) one, laid_over old new grows, all)
      (adds_on bs (ss ++ (s ∷ [])) (subst AllRight all rs) (subst Different all ds) (rw all at most) (rw all at fits))

-- A message rebuilt by adding its strings one by one in a fresh buffer, one that holds anything and is long enough: it ends at the buffer's
-- front, its length is the count, and the rest of the buffer is untouched.
pub rebuilt : (message : List ℕ) (strings : List ElementString) (buffer : List ℕ) → IsMessage message strings → length message ≤ length buffer → adds_all buffer 0 strings ≡ made (built_in buffer message)
unfolding joined
rebuilt message strings buffer m fits =
    rw m.whole (adds_on buffer strings [] m.right m.different (rw m.whole at m.most) (rw m.whole at fits))

-- and so is one rebuilt from what splitting it gave
pub rebuilt_from_split : (message : List ℕ) (elements : List Element) (buffer : List ℕ) → tested message ≡ made elements → length message ≤ length buffer → adds_all buffer 0 (map (string_of message) elements) ≡ made (built_in buffer message)
rebuilt_from_split message elements buffer e = rebuilt message (map (string_of message) elements) buffer (strings_of_accepted message elements e)
