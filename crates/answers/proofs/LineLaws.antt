-- What a call left at the front of a lent list is what its rule makes: so the line of the one is the line of the other.
use Rattle.std.specs.Prelude.{Result, Ok, Err}
use Prim.Native.Nat.{ℕ}
use mathlib.Core.Path.{◌≡◌, refl, ap}
use mathlib.Core.List.{List}
use lib.ListN.{take}
use Rattle.refusal.specs.declared.Refusal.{Refusal}
use Rattle.refusal.specs.Outcome.{Outcome, made}
use Rattle.refusal.specs.Fills.{Fills}
use Rattle.refusal.proofs.FillsLaws.{refused_of_answer}
use Rattle.refusal.proofs.OwnLaws.{own_of_fills, own_front}
use Rattle.answers.specs.declared.Form.{Form}
use Rattle.answers.specs.Lines.{Shows, Made, line_of, made_line}

module _ (o : Outcome (List ℕ)) (before after : List ℕ) where
  pub made_line_lem : (form : Form) (between : List ℕ) (r : Result ℕ Refusal) → Fills o before r after → line_of form between o ≡ made_line form between r after
  made_line_lem form between (Ok n) h = ap (line_of form between) (own_front o before after (Ok n) n refl (own_of_fills o o before after (Ok n) refl h)).0
  made_line_lem form between (Err f) h = ap (line_of form between) (refused_of_answer o f h.answer)

  -- it can be shown, where all that the rule makes can be
  pub made_shows : (form : Form) (r : Result ℕ Refusal) → Fills o before r after → ((list : List ℕ) → o ≡ made list → Shows form list) → Made form r after
  made_shows form (Ok n) h shows =
      let front = own_front o before after (Ok n) n refl (own_of_fills o o before after (Ok n) refl h) in
      (front.1, shows (take n after) front.0)
  made_shows form (Err f) h shows = tt
