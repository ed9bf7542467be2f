-- Identifiers of five digits or more are all alike: none is listed, so the one number that stands for them gets the same answer.
use Rattle.std.specs.Prelude.{Result, Ok, Err}
use Prim.Native.Nat.{ℕ, ◌+◌, min}
use mathlib.Core.Path.{◌≡◌, refl, sym, ap}
use mathlib.Core.Bool.{cond}
use mathlib.Core.List.{List}
use lib.ListN.{length, drop}
use lib.Dec.{eqb}
use Rattle.refusal.specs.Outcome.{Outcome}
use Rattle.elements.specs.declared.Element.{Element}
use Rattle.asking.proofs.AskedLarge.{asked_capped}
use Rattle.adding.proofs.AddAlike.{adds_capped}
use Rattle.answers.specs.declared.Form.TheVariants.{Bytes as AsBytes}
use Rattle.answers.specs.Lines.{list_line}
use Rattle.requests.specs.declared.Fault.{Fault}
use Rattle.requests.specs.declared.Argument.TheVariants.{Message}
use Rattle.requests.specs.declared.Fault.TheVariants.{Missing}
use Rattle.requests.specs.Requests.{capped, size_at, word_at}
use Rattle.requests.specs.Texts.{fault_line}
use Rattle.calls.specs.Answers.{data_of, asked_by, buffer_of, add_after, added_by}

pub asked_alike : (typed : List ℕ) (leading : Result (ℕ × ℕ) Fault) → asked_by typed leading ≡ asked_by typed (capped leading)
asked_alike typed (Ok (n, from)) = let message = drop from typed in ap (λ (o : Outcome Element). list_line AsBytes (data_of message o)) (sym (asked_capped message n))
asked_alike typed (Err fault) = refl

-- whatever follows the identifier
added_after : (places n : ℕ) (typed : List ℕ) → add_after places n typed ≡ add_after places (min n 10000) typed
added_after places n typed =
    let message = drop (0 + size_at typed 0 + 1) typed in
    let same = ap (list_line AsBytes) (sym (adds_capped (buffer_of places message) (length message) n (word_at typed 0))) in
    ap (λ (line : List ℕ). cond (eqb (0 + size_at typed 0) (length typed)) (fault_line (Missing Message)) line) same

pub added_alike : (places : ℕ) (typed : List ℕ) (leading : Result (ℕ × ℕ) Fault) → added_by places typed leading ≡ added_by places typed (capped leading)
added_alike places typed (Ok (n, from)) = added_after places n (drop from typed)
added_alike places typed (Err fault) = refl
