-- What the scan makes is a symbol's start and values, and every symbol's are made: of widths that passed each stage the pieces are known, and
-- put together they are the symbol; of a symbol each stage is known to pass.
use Prim.Native.Nat.{ℕ, ◌+◌, ◌-◌, ◌*◌, ◌%◌, ◌≤◌, ◌<◌}
use mathlib.Core.Path.{◌≡◌, refl, sym, ap, ap₂, ◌∙◌, subst}
use mathlib.Core.Bool.{true}
use mathlib.Core.List.{List, [], ◌∷◌, ◌++◌}
use mathlib.Core.Logic.{◌↔◌}
use native.Mathlib.Omega.{arith}
use lib.ListN.{length, get_or, take, drop, length-append, take-append-drop}
use lib.Seq.{take-append_seam, drop-drop, get_or-drop}
use lib.Dec.{ltb}
use borrow.Author.Tests.{le-leb, ltb-true, eq-eqb}
use Rattle.laws.specs.Below.{Below}
use Rattle.laws.proofs.BelowLaws.{below_more, below_rest, below_take}
use Rattle.laws.proofs.Booleans.{both_hold}
use Rattle.refusal.specs.declared.Refusal.TheVariants.{Count, Guard}
use Rattle.refusal.specs.Outcome.{made}
use Rattle.refusal.proofs.OutcomeLaws.{made_same, must_made, bind_made}
use Rattle.patterns.specs.Patterns.{same, value_in, drawn}
use Rattle.patterns.proofs.PatternLaws.{same_true, pattern_at}
use Rattle.patterns.proofs.CharacterLaws.{drawn_of_characters}
use Rattle.code128.specs.Characters.{patterns, stop}
use Rattle.code128.specs.Check.{check_of}
use Rattle.gs1_128.specs.Symbol.{with_check, symbol_of, permitted, count_of, starts, allowed}
use Rattle.gs1_128.specs.Scanning.{guarded, start_of, start_in, values_in, judged_values, Scanned, scanned}
use Rattle.gs1_128.proofs.CountLaws.{Counted, count_permitted}
use Rattle.gs1_128.proofs.TableLaws.{allowed_are, starts_are}
use Rattle.gs1_128.proofs.SymbolLaws.{symbol_parts, length_of_symbol, start_in_symbol, values_of_symbol}
use Rattle.gs1_128.proofs.JudgedLaws.{judged_as_checked}

-- the widths are the symbol of a start, the first FNC1 and 1 to 99 values
pub record IsDrawn (widths : List ℕ) (symbol : Scanned) : Type 0 where
  pub least_start : 103 ≤ symbol.start
  pub most_start : symbol.start ≤ 105
  pub least : 1 ≤ length symbol.values
  pub most : length symbol.values ≤ 99
  pub allowed : Below 103 symbol.values
  pub drawn : widths ≡ symbol_of (symbol.start ∷ 102 ∷ symbol.values)

-- widths of a permitted count are six for the start, six for each of n + 1 characters, and seven
permitted_count : (n : ℕ) → 2 ≤ n → n ≤ 100 → permitted (6 * n + 19) ≡ true
permitted_count n least most =
    let rest : (6 * n + 19 - 19) % 6 ≡ 0 = omega arith in
    rw (le-leb 31 (6 * n + 19) (omega arith), le-leb (6 * n + 19) 619 (omega arith), eq-eqb ((6 * n + 19 - 19) % 6) 0 rest)

-- every stage passes where a symbol was drawn
scan_of_symbol : (widths : List ℕ) (symbol : Scanned) → IsDrawn widths symbol → scanned widths ≡ made symbol
unfolding scanned
scan_of_symbol widths symbol d =
    let start = symbol.start in
    let after : List ℕ = 102 ∷ symbol.values in
    let below = below_more 103 102 symbol.values (omega arith) d.allowed in
    let size : permitted (length (symbol_of (start ∷ after))) ≡ true =
    ap permitted (length_of_symbol start after d.least_start d.most_start below) ∙ permitted_count (length after) (omega (arith, d.least)) (omega (arith, d.most)) in
    let judged = (judged_as_checked start (with_check start after) symbol.values (simp length-append (omega arith))).1 refl in
    rw (d.drawn, size, start_in_symbol start after d.least_start d.most_start below, values_of_symbol start after d.least_start d.most_start below, judged)

-- the stages, all passed
pub record Passed (widths : List ℕ) (symbol : Scanned) : Type 0 where
  pub values : List ℕ
  pub counted : permitted (length widths) ≡ true
  pub ends : guarded widths ≡ true
  pub begins : start_of widths ≡ symbol.start
  pub between : values_in widths ≡ made values
  pub judged : judged_values symbol.start values ≡ made symbol.values

pub passed_scan : (widths : List ℕ) (symbol : Scanned) → scanned widths ≡ made symbol → Passed widths symbol
unfolding scanned start_in
passed_scan widths symbol o =
    let a = must_made (permitted (length widths)) Count _ symbol o in
    let s = bind_made (start_in widths) _ symbol a.1 in
    let g = must_made (guarded widths) Guard _ s.0 s.1 in
    let v = bind_made (values_in widths) _ symbol s.2 in
    let j = bind_made (judged_values s.0 v.0) _ symbol v.2 in
    subst (Passed widths) (made_same _ symbol j.2)
    (record { values = v.0; counted = a.0; ends = g.0; begins = made_same _ _ g.1; between = v.1; judged = j.1 })

-- then the widths are those of the symbol
module _ (widths : List ℕ) (symbol : Scanned) (p : Passed widths symbol) where
  abbrev n : ℕ
  n = count_of widths

  abbrev start : ℕ
  start = symbol.start

  abbrev after : List ℕ
  after = 102 ∷ symbol.values

  size : Counted (length widths) n
  size = count_permitted (length widths) p.counted

  ends : (value_in starts (take 6 widths) < 3) × (drop (length widths - 7) widths ≡ stop)
  unfolding guarded
  ends =
      let both = both_hold (ltb (value_in starts (take 6 widths)) 3) (same (drop (length widths - 7) widths) stop) p.ends in
      (ltb-true _ 3 both.0, same_true _ _ both.1)

  begins : take 6 widths ≡ get_or patterns start []
  begins =
      sym (pattern_at starts (take 6 widths) (rw starts_are ends.0))
      ∙ get_or-drop 103 patterns (value_in starts (take 6 widths)) []
      ∙ ap (λ (v : ℕ). get_or patterns v []) p.begins

  between : (length p.values ≡ n + 1) × (drawn allowed p.values ≡ take (6 * (n + 1)) (drop 6 widths)) × Below 103 p.values
  between = let d = drawn_of_characters allowed 6 (n + 1) 1 (drop 6 widths) p.values p.between in (d.0, d.1, rw allowed_are at d.2)

  with_check_lem : p.values ≡ with_check start after
  with_check_lem = (judged_as_checked start p.values symbol.values (omega (arith, between.0, size))).0 p.judged

  count_is : length symbol.values ≡ n - 1
  count_is = omega (arith, between.0, ap length with_check_lem, length-append symbol.values (check_of start after ∷ []))

  after_below : Below 103 after
  after_below =
      let all : Below 103 (with_check start after) = subst (Below 103) with_check_lem between.2 in
      subst (Below 103) (take-append_seam after (check_of start after ∷ [])) (below_take 103 (length after) (with_check start after) all)

  whole : widths ≡ symbol_of (start ∷ after)
  whole =
      let last : 6 + 6 * (n + 1) ≡ length widths - 7 = omega (arith, size) in
      sym (take-append-drop 6 widths)
      ∙ ap₂ (λ (first rest : List ℕ). first ++ rest) begins
      (sym (take-append-drop (6 * (n + 1)) (drop 6 widths))
      ∙ ap₂ (λ (chars rest : List ℕ). chars ++ rest) (sym between.1 ∙ ap (drawn allowed) with_check_lem)
      (drop-drop (6 * (n + 1)) 6 widths ∙ ap (λ (k : ℕ). drop k widths) last ∙ ends.1))
      ∙ sym (symbol_parts start after (omega (arith, p.begins)) (omega (arith, p.begins, ends.0)) after_below)

  passed_drawn : IsDrawn widths symbol
  passed_drawn = record {
    least_start = omega (arith, p.begins);
    most_start = omega (arith, p.begins, ends.0);
    least = omega (arith, count_is, size);
    most = omega (arith, count_is, size);
    allowed = below_rest 103 102 symbol.values after_below;
    drawn = whole;
  }

-- the scan makes a start and values exactly where the widths are the symbol drawn from them
pub scanned_as_drawn : (widths : List ℕ) (symbol : Scanned) → (scanned widths ≡ made symbol) ↔ IsDrawn widths symbol
scanned_as_drawn widths symbol = (λ o. passed_drawn widths symbol (passed_scan widths symbol o), scan_of_symbol widths symbol)
