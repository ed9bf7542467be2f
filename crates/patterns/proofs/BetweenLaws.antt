-- Characters between a start and a stop, there and back: each part stands where the one before it ends, and the parts make the list again.
use Prim.Native.Nat.{ℕ, ◌+◌, ◌*◌}
use mathlib.Core.Path.{◌≡◌, refl, sym, ap, ap₂, ◌∙◌}
use mathlib.Core.Bool.{◌&&◌}
use mathlib.Core.List.{List, ◌++◌, append_assoc}
use lib.ListN.{length, take, drop, length-append, take-append-drop}
use lib.Seq.{take_at, drop_at, take-add}
use lib.Dec.{T, eqb}
use borrow.Author.Tests.{eq-eqb}
use Rattle.laws.specs.Below.{Below}
use Rattle.laws.proofs.Booleans.{both_hold}
use Rattle.refusal.specs.declared.Refusal.TheVariants.{Count, Guard}
use Rattle.refusal.specs.Outcome.{made}
use Rattle.refusal.proofs.OutcomeLaws.{must_made}
use Rattle.patterns.specs.Patterns.{same, drawn}
use Rattle.patterns.specs.Between.{between}
use Rattle.patterns.proofs.PatternLaws.{same_true, same_refl, distinct}
use Rattle.patterns.proofs.CharacterLaws.{sized, length_of_drawn, characters_of_drawn, drawn_of_characters}

module _ (start stop : List ℕ) (patterns : List (List ℕ)) (size : ℕ) where
  abbrev symbol : List ℕ → List ℕ
  symbol values = start ++ drawn patterns values ++ stop

  module _ (sizes : T (sized size patterns)) (values : List ℕ) (below : Below (length patterns) values) where
    abbrev bars : List ℕ
    bars = drawn patterns values

    long : length bars ≡ size * length values
    long = length_of_drawn patterns size sizes values below

    front : length (start ++ bars) ≡ length start + size * length values
    front = length-append start bars ∙ ap (λ (n : ℕ). length start + n) long

    pub length_between : length (symbol values) ≡ length start + size * length values + length stop
    length_between = length-append (start ++ bars) stop ∙ ap (λ (n : ℕ). n + length stop) front

    pub between_of_drawn : T (distinct patterns) → between start stop patterns size (length values) (symbol values) ≡ made values
    unfolding between
    between_of_drawn t =
        let whole : symbol values ≡ start ++ (bars ++ stop) = append_assoc start bars stop in
        let starts : take (length start) (symbol values) ≡ start = ap (take (length start)) whole ∙ take_at start (bars ++ stop) (length start) refl in
        let on : drop (length start) (symbol values) ≡ bars ++ stop = ap (drop (length start)) whole ∙ drop_at start (bars ++ stop) (length start) refl in
        let ends : drop (length start + size * length values) (symbol values) ≡ stop = drop_at (start ++ bars) stop _ front in
        rw (eq-eqb _ _ length_between, starts, ends, same_refl start, same_refl stop, on) (characters_of_drawn patterns size sizes t values below 0 stop)

  pub drawn_of_between : (count : ℕ) (widths values : List ℕ) → between start stop patterns size count widths ≡ made values → (symbol values ≡ widths) × (length values ≡ count) × Below (length patterns) values
  unfolding between
  drawn_of_between count widths values e =
      let n = length start in
      let starts = same (take n widths) start in
      let ends = same (drop (n + size * count) widths) stop in
      let a = must_made (eqb (length widths) (n + size * count + length stop)) Count _ values e in
      let b = must_made (starts && ends) Guard _ values a.1 in
      let both = both_hold starts ends b.0 in
      let d = drawn_of_characters patterns size count 0 (drop n widths) values b.1 in (
        ap₂ (λ (first last : List ℕ). first ++ drawn patterns values ++ last) (sym (same_true _ start both.0)) (sym (same_true _ stop both.1))
            ∙ ap (λ (middle : List ℕ). take n widths ++ middle ++ drop (n + size * count) widths) d.1
            ∙ ap (λ (l : List ℕ). l ++ drop (n + size * count) widths) (sym (take-add n (size * count) widths))
            ∙ take-append-drop (n + size * count) widths,
        d.0,
        d.2,
      )
