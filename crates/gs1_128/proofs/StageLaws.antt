-- The rule of the message, met by the calls stage by stage: a stage that refuses gives the rule's refusal, and where none does the text is
-- the message.
use Prim.Native.Nat.{ℕ, ◌<◌}
use mathlib.Core.Path.{◌≡◌, refl, sym, ◌∙◌}
use mathlib.Core.Bool.{true, false}
use mathlib.Core.List.{List}
use native.Mathlib.Omega.{arith}
use lib.ListN.{length, take}
use lib.Dec.{ltb}
use borrow.Author.Tests.{ltb-true}
use Rattle.laws.proofs.Booleans.{both_hold}
use Rattle.refusal.specs.declared.Refusal.{Refusal}
use Rattle.refusal.specs.declared.Refusal.TheVariants.{Count, Guard}
use Rattle.refusal.specs.Outcome.{Outcome, made, refused, ◌>>=◌}
use Rattle.refusal.specs.Fills.{laying}
use Rattle.refusal.proofs.OutcomeLaws.{made_same, must_made}
use Rattle.elements.specs.declared.Element.{Element}
use Rattle.elements.specs.Strings.{tested}
use Rattle.patterns.specs.Patterns.{value_in}
use Rattle.code_sets.specs.Reading.{decoded}
use Rattle.gs1_128.specs.Symbol.{permitted, starts}
use Rattle.gs1_128.specs.Scanning.{guarded, start_of, start_in, values_in, judged_values, Scanned, scanned}
use Rattle.gs1_128.specs.Rules.{message_from, message_in, reads}
use Rattle.gs1_128.proofs.TextLaws.{tested_of_decoded}

-- a start is 103, 104 or 105
pub start_below : (widths : List ℕ) (start : ℕ) → start_in widths ≡ made start → start < 106
unfolding start_in guarded
start_below widths start e =
    let m = must_made (guarded widths) Guard (made (start_of widths)) start e in
    let both = both_hold (ltb (value_in starts (take 6 widths)) 3) _ m.0 in
    omega (arith, ltb-true (value_in starts (take 6 widths)) 3 both.0, made_same (start_of widths) start m.1)

-- from values on
module _ (start : ℕ) (values : List ℕ) where
  pub text_refused : (f : Refusal) → decoded start values ≡ refused f → message_from start values ≡ refused f
  unfolding message_from
  text_refused f e = rw e

  module _ (text : List ℕ) (t : decoded start values ≡ made text) where
    pub message_wrong : (f : Refusal) → tested text ≡ refused f → message_from start values ≡ refused f
    unfolding message_from
    message_wrong f e = rw (t, sym (tested_of_decoded start values text t) ∙ e)

    pub message_right : (strings : List Element) → tested text ≡ made strings → message_from start values ≡ made text
    unfolding message_from
    message_right strings e = rw (t, sym (tested_of_decoded start values text t) ∙ e)

-- from widths on
module _ (widths : List ℕ) where
  pub message_count : permitted (length widths) ≡ false → message_in widths ≡ refused Count
  unfolding message_in scanned
  message_count p = rw p

  module _ (p : permitted (length widths) ≡ true) where
    pub message_guard : (f : Refusal) → start_in widths ≡ refused f → message_in widths ≡ refused f
    unfolding message_in scanned
    message_guard f s = rw (p, s)

    pub message_started : (start : ℕ) → start_in widths ≡ made start → message_in widths ≡ (values_in widths >>= (λ values. judged_values start values >>= message_from start))
    unfolding message_in scanned
    message_started start s = rw (p, s) (go (values_in widths))
      where
        held : List ℕ → Scanned
        held between = record { start = start; values = between }

        last : (o : Outcome (List ℕ)) → ((o >>= (λ between. made (held between))) >>= (λ symbol. message_from symbol.start symbol.values)) ≡ (o >>= message_from start)
        last (made between) = refl
        last (refused f) = refl

        go : (o : Outcome (List ℕ)) → ((o >>= (λ values. judged_values start values >>= (λ between. made (held between)))) >>= (λ symbol. message_from symbol.start symbol.values)) ≡ (o >>= (λ values. judged_values start values >>= message_from start))
        go (made values) = last (judged_values start values)
        go (refused f) = refl

  -- then the room
  pub reads_refused : (room : ℕ) (f : Refusal) → message_in widths ≡ refused f → reads widths room ≡ refused f
  unfolding reads
  reads_refused room f e = rw e

  pub reads_laying : (room : ℕ) (text : List ℕ) → message_in widths ≡ made text → reads widths room ≡ laying text room
  unfolding reads
  reads_laying room text e = rw e
