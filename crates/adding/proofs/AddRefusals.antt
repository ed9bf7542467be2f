-- Refusals 8 and 12 of adding come only where nothing else is wrong: each line of the rule gives its own refusals and no other, so one that
-- only a late line gives says that every line before it passed.
use Prim.Native.Nat.{ℕ, ◌<◌}
use mathlib.Core.Path.{◌≡◌, refl, sym, ap, ◌∙◌, subst}
use mathlib.Core.Bool.{Bool, true, false, ◌&&◌}
use mathlib.Core.List.{List, ◌++◌, map}
use native.Mathlib.Omega.{arith}
use lib.ListN.{length, take}
use lib.Dec.{leb}
use borrow.Author.Tests.{leb-false}
use Rattle.laws.specs.First.{first_not}
use Rattle.laws.specs.Among.{place_in, among}
use Rattle.refusal.specs.declared.Refusal.{Refusal}
use Rattle.refusal.specs.declared.Refusal.TheVariants.{Count, Sequence, Room}
use Rattle.refusal.specs.Outcome.{Outcome, made, refused, ◌>>=◌, ◌>>◌, must}
use Rattle.refusal.specs.Fills.{laying}
use Rattle.identifiers.specs.Identifiers.{spelled}
use Rattle.elements.specs.Messages.{ElementString, string_of}
use Rattle.elements.proofs.TestRefusals.{of_message, others_refused, must_passed}
use Rattle.adding.specs.Adding.{closed, judged, added, adds, TooLong}
use Rattle.adding.proofs.AddLaws.{judged_passed}
use Rattle.adding.proofs.AddedStrings.{used_shown, of_sofar, whole_of}

-- the test that refused
must_failed : {A : Type 0} (test : Bool) (f g : Refusal) (a : A) → (must test f >> made a) ≡ refused g → (test ≡ false) × (f ≡ g)
must_failed true f g a e = absurd (let z : ◌≡◌ {A = ℕ} 0 1 = cc in omega arith)
must_failed false f g a e = (refl, cc)

-- where no message is made, the judgement refused
added_refused : (o : Outcome (List ℕ)) (rest : List ℕ → List ℕ) (f : Refusal) → (o >>= (λ (between : List ℕ). made (rest between))) ≡ refused f → o ≡ refused f
added_refused (made between) rest f e = absurd (let z : ◌≡◌ {A = ℕ} 0 1 = cc in omega arith)
added_refused (refused g) rest f e = e

-- Refusal 8: the old message and the new string are right, the identifier is new, and the message of them all has over 48 bytes.
pub over_only : (old : List ℕ) (s : ElementString) → added old s.identifier s.content ≡ refused Sequence → TooLong old s
unfolding added place_in first_not
over_only old s e =
    let p = judged_passed old s.identifier s.content (refused Sequence) (others_refused of_message Sequence refl) (added_refused (judged old s.identifier s.content) _ Sequence e) in
    let long = leb-false _ 48 (must_failed _ Sequence Sequence _ p.last).0 in
    record {
      strings = map (string_of old) p.strings;
      so_far = of_sofar old p.strings p.so_far;
      right = record { kind = p.kind; listed = p.listed; right = p.right };
      new = sym (ap (λ (xs : List ℕ). among xs s.identifier) (used_shown old p.strings)) ∙ p.new;
      long = subst (λ (m : List ℕ). 48 < length m) (whole_of old p.strings s p.so_far) long;
    }

never_room : (old : List ℕ) (x : ℕ) (content : List ℕ) → added old x content ≡ refused Room → ⊥
unfolding added place_in first_not
never_room old x content e =
    let p = judged_passed old x content (refused Room) (others_refused of_message Room refl) (added_refused (judged old x content) _ Room e) in
    let same : Sequence ≡ Room = (must_failed (leb (length (old ++ closed p.strings ++ spelled x ++ content)) 48) Sequence Room (closed p.strings) p.last).1 in
    let z : ◌≡◌ {A = ℕ} 0 1 = cc in
    omega arith

-- Refusal 12: the new message can be made, and the buffer is shorter than it.
pub room_only : (buffer : List ℕ) (count x : ℕ) (content : List ℕ) → adds buffer count x content ≡ refused Room → (message : List ℕ) × (added (take count buffer) x content ≡ made message) × (length buffer < length message)
unfolding adds place_in first_not
room_only buffer count x content e =
    let a = must_passed of_message (leb count 48 && leb count (length buffer)) Count _ (refused Room) refl (others_refused of_message Room refl) e in
    go (added (take count buffer) x content) refl a.1
  where
    go : (o : Outcome (List ℕ)) → added (take count buffer) x content ≡ o → (o >>= (λ (message : List ℕ). laying message (length buffer))) ≡ refused Room → (message : List ℕ) × (o ≡ made message) × (length buffer < length message)
    go (made message) is e = (message, refl, leb-false _ _ (must_failed (leb (length message) (length buffer)) Room Room message e).0)
    go (refused f) is e = absurd (never_room (take count buffer) x content (is ∙ e))
