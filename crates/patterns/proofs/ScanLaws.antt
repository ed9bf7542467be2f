-- A scan met by a loop that goes up, a character a turn: the values found so far, before what is left of the scan, are the rule's, and the
-- matcher's answer for the next character decides whether it goes on. And what a scan says that has filled a working list.
use Rattle.std.specs.Prelude.{Result, Ok, Some, None}
use Prim.Native.Nat.{ℕ, ◌+◌, ◌*◌, ◌<◌}
use mathlib.Core.Path.{◌≡◌, sym, ap, ◌∙◌}
use mathlib.Core.List.{List, [], ◌∷◌, append-nil}
use native.Mathlib.Numerals.{add-one}
use native.Mathlib.Omega.{arith}
use lib.ListN.{length, set, take, drop}
use lib.Seq.{take_all, take-suc-set}
use Rattle.laws.specs.Below.{Below}
use Rattle.refusal.specs.declared.Refusal.{Refusal}
use Rattle.refusal.specs.declared.Refusal.TheVariants.{Pattern}
use Rattle.refusal.specs.Outcome.{Outcome, made, refused}
use Rattle.refusal.specs.Fills.{FillsOwn}
use Rattle.refusal.proofs.OwnLaws.{own_made}
use Rattle.patterns.specs.Patterns.{characters}
use Rattle.patterns.specs.Matching.{match_in}
use Rattle.patterns.proofs.CharacterLaws.{prefixed, prefixed_twice, prefixed_none, left, left_at_first, left_at_last, left_more, left_stop, drawn_of_characters}
use Rattle.patterns.proofs.MatchLaws.{value_of_match, value_of_nothing}

module _ (patterns : List (List ℕ)) (size count place : ℕ) (widths : List ℕ) where
  abbrev rule : Outcome (List ℕ)
  rule = characters patterns size count place widths

  abbrev rest : ℕ → Outcome (List ℕ)
  rest i = left patterns size count place widths i

  -- i characters were scanned
  abbrev pub ScannedTo : ℕ → List ℕ → Type 0
  ScannedTo i values = rule ≡ prefixed (take i values) (rest i)

  module _ (values : List ℕ) where
    pub scan_begins : ScannedTo 0 values
    scan_begins = left_at_first patterns size count place widths ∙ prefixed_none (rest 0)

    pub scan_ends : length values ≡ count → ScannedTo count values → rule ≡ made values
    scan_ends long so =
        so
        ∙ ap (prefixed (take count values)) (left_at_last patterns size count place widths)
        ∙ ap made (append-nil (take count values) ∙ take_all count values (omega arith))

    -- a scan that has filled a list of as many places
    pub scan_filled : (before : List ℕ) (r : Result ℕ Refusal) (n : ℕ) → FillsOwn rule before r values → r ≡ Ok n → length before ≡ count → (rule ≡ made values) × (length values ≡ count) × Below (length patterns) values
    scan_filled before r n fills is long =
        let scanned = own_made rule before values r n is fills (λ vs e. (drawn_of_characters patterns size count place widths vs e).0 ∙ sym long) in
        let parts = drawn_of_characters patterns size count place widths values scanned in
        (scanned, parts.0, parts.2)

    module _ (i : ℕ) (h : i < count) (so : ScannedTo i values) where
      abbrev part : List ℕ
      part = take size (drop (size * i) widths)

      pub scan_stops : None ≡ match_in patterns part → rule ≡ refused (Pattern (place + i))
      scan_stops none =
          so ∙ ap (prefixed (take i values)) (left_stop patterns size count place widths i h (value_of_nothing patterns part none))

      pub scan_goes : (v : ℕ) → length values ≡ count → Some v ≡ match_in patterns part → ScannedTo (i + 1) (set values i v)
      scan_goes v long found =
          let is = value_of_match patterns part v found in
          so
          ∙ ap (prefixed (take i values)) (left_more patterns size count place widths i v h is.0 is.1)
          ∙ prefixed_twice (take i values) (v ∷ []) (rest (i + 1))
          ∙ ap (λ (front : List ℕ). prefixed front (rest (i + 1))) (sym (take-suc-set values i v (omega arith)) ∙ ap (λ (n : ℕ). take n (set values i v)) (sym (add-one i)))
