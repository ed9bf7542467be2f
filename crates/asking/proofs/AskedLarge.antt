-- No message has an identifier of five digits, so each number from 10000 on is refused as any other of them is.
use Prim.Native.Nat.{ℕ, ◌≤◌, min}
use mathlib.Core.Path.{◌≡◌, refl, sym, ap, ◌∙◌}
use mathlib.Core.Bool.{false}
use mathlib.Core.List.{List}
use native.Mathlib.Decide.{dec_le}
use native.Mathlib.Omega.{arith}
use borrow.Author.Tests.{ne_eqb}
use Rattle.laws.specs.Among.{among}
use Rattle.laws.proofs.AmongLaws.{among_of_nil, among_more}
use Rattle.refusal.specs.declared.Refusal.TheVariants.{Absent}
use Rattle.refusal.specs.Outcome.{Outcome, made, refused}
use Rattle.identifiers.proofs.DecisionLaws.{spelling_of}
use Rattle.identifiers.proofs.ListedLaws.{listed_if_kind}
use Rattle.elements.specs.declared.Element.{Element}
use Rattle.elements.specs.Strings.{tested}
use Rattle.elements.specs.Messages.{ElementString, used_in, AllRight, right_none, right_more}
use Rattle.elements.proofs.Theorems.{strings_of_accepted}
use Rattle.asking.specs.Asking.{asked}
use Rattle.asking.proofs.AskLaws.{asked_refused}
use Rattle.asking.proofs.AskedData.{asked_of_none}

none_large : {strings : List ElementString} → AllRight strings → (x : ℕ) → 10000 ≤ x → among (used_in strings) x ≡ false
none_large right_none x h = among_of_nil x
none_large (right_more {string} {strings} right more) x h =
    let small = (spelling_of string.identifier (listed_if_kind string.identifier right.kind right.listed)).small in
    rw (among_more string.identifier (used_in strings) x, ne_eqb string.identifier x (λ e. omega arith)) (none_large more x h)

asked_large : (message : List ℕ) (strings : List Element) → tested message ≡ made strings → (x : ℕ) → 10000 ≤ x → asked message x ≡ refused Absent
asked_large message strings e x h = let m = strings_of_accepted message strings e in asked_of_none message _ x m (none_large m.right x h)

pub asked_capped : (message : List ℕ) (n : ℕ) → asked message (min n 10000) ≡ asked message n
asked_capped message n = go (dec_le n 10000) (tested message) refl
  where
    go : Dec (n ≤ 10000) → (o : Outcome (List Element)) → tested message ≡ o → asked message (min n 10000) ≡ asked message n
    go (yes small) o is = ap (asked message) (omega arith)
    go (no large) (refused f) is = asked_refused message (min n 10000) f is ∙ sym (asked_refused message n f is)
    go (no large) (made strings) is = asked_large message strings is (min n 10000) (omega arith) ∙ sym (asked_large message strings is n (omega arith))
