-- What asking found, as the line shows it: the part that is handed back, where the companion call answers a length; or the refusal.
use Rattle.std.specs.Prelude.{Ok, Err}
use Prim.Native.Nat.{ℕ, ◌≤◌}
use mathlib.Core.Path.{◌≡◌, refl}
use mathlib.Core.List.{List}
use native.Mathlib.Omega.{arith}
use lib.ListN.{length, length-take, length-drop}
use Rattle.refusal.specs.declared.Refusal.{Refusal}
use Rattle.refusal.specs.Outcome.{Outcome, made, refused}
use Rattle.refusal.specs.Fills.{answered}
use Rattle.elements.specs.declared.Element.{Element}
use Rattle.asking.specs.Asking.{asked, part_of, length_of}
use Rattle.asking.proofs.AskedData.{string_of_asked}
use Rattle.calls.specs.Answers.{data_of}

-- a part that is handed back lies in a message, which has at most 48 bytes
pub part_short : (message : List ℕ) (identifier : ℕ) → length (part_of message (asked message identifier)) ≤ 48
part_short message identifier = go (asked message identifier) refl
  where
    go : (o : Outcome Element) → asked message identifier ≡ o → length (part_of message o) ≤ 48
    go (made element) e =
        let most = (string_of_asked message identifier element e).2.most in
        simp (length-take, length-drop) (omega arith)
    go (refused f) e = omega arith

module _ (message : List ℕ) where
  pub data_found : (o : Outcome Element) (n : ℕ) → Ok n ≡ answered (length_of o) → data_of message o ≡ made (part_of message o)
  data_found (made string) n e = refl
  data_found (refused f) n e = absurd (let z : ◌≡◌ {A = ℕ} 0 1 = cc in omega arith)

  pub data_refused : (o : Outcome Element) (f : Refusal) → Err f ≡ answered (length_of o) → data_of message o ≡ refused f
  data_refused (made string) f e = absurd (let z : ◌≡◌ {A = ℕ} 0 1 = cc in omega arith)
  data_refused (refused g) f e = cc
