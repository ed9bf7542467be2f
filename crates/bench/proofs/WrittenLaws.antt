-- What the writer's rule comes to in a list of 313 places or more: the same in each, and never refusal 12. A message of more than 48 bytes is
-- refused for its count, so its first 49 bytes decide.
use Prim.Native.Nat.{ℕ, ◌≤◌}
use mathlib.Core.Path.{◌≡◌, refl, sym, ◌∙◌}
use mathlib.Core.List.{List, [], append-nil}
use native.Mathlib.Omega.{arith}
use lib.ListN.{length, take}
use Rattle.refusal.specs.declared.Refusal.{Refusal}
use Rattle.refusal.specs.Outcome.{Outcome, made, refused}
use Rattle.refusal.proofs.OutcomeLaws.{made_not_refused}
use Rattle.elements.specs.declared.Element.{Element}
use Rattle.elements.specs.Strings.{tested}
use Rattle.elements.proofs.Theorems.{strings_of_accepted}
use Rattle.gs1_128.specs.Rules.{best_symbol, writes}
use Rattle.gs1_128.proofs.WrittenLaws.{write_refused}
use Rattle.gs1_128.proofs.ComesBack.{best_room, writes_best}
use Rattle.serving.proofs.Theorems.{held_as_whole}
use Rattle.bench.specs.LongLines.{written_over}

-- a message that passes its test is drawn in any list of 313 places or more
written_made : (message : List ℕ) (strings : List Element) (room : ℕ) → tested message ≡ made strings → 313 ≤ room → writes message room ≡ made (best_symbol message)
written_made message strings room e h =
    let right = strings_of_accepted message strings e in
    writes_best message _ right room (omega (arith, best_room message _ right))

pub in_any_room : (message : List ℕ) (room other : ℕ) → 313 ≤ room → 313 ≤ other → writes message room ≡ writes message other
in_any_room message room other h k = go (tested message) refl
  where
    go : (o : Outcome (List Element)) → tested message ≡ o → writes message room ≡ writes message other
    go (made strings) e = written_made message strings room e h ∙ sym (written_made message strings other e k)
    go (refused f) e = write_refused message room f e ∙ sym (write_refused message other f e)

-- every refusal is the message's own, and never for want of room
pub write_refused_by_test : (message : List ℕ) (room : ℕ) (f : Refusal) → 313 ≤ room → writes message room ≡ refused f → tested message ≡ refused f
write_refused_by_test message room f h e = go (tested message) refl
  where
    go : (o : Outcome (List Element)) → tested message ≡ o → o ≡ refused f
    go (made strings) t = absurd (made_not_refused _ f (sym (written_made message strings room t h) ∙ e))
    go (refused g) t = let same = sym (write_refused message room g t) ∙ e in cc

pub written_cut : (message : List ℕ) (room : ℕ) → writes (take 49 message) room ≡ writes message room
written_cut message room =
    let alike = λ (one other : List ℕ) (h : 49 ≤ length one) (k : 49 ≤ length other). written_over one room h ∙ sym (written_over other room k) in
    simp append-nil at (held_as_whole (λ (m : List ℕ). writes m room) 49 alike message [])
