-- A drawing met by a loop that goes up, a character a turn: after i turns the first i characters stand, and then what stood there.
use Prim.Native.Nat.{ℕ, ◌+◌, ◌*◌, ◌≤◌, ◌<◌}
use mathlib.Core.Path.{◌≡◌, sym, ap, ap₂, ◌∙◌}
use mathlib.Core.List.{List, [], ◌∷◌, ◌++◌, append_assoc, append-nil}
use native.Mathlib.Nat.{mul-zero, mul-one, mul-add}
use native.Mathlib.Numerals.{add-one}
use native.Mathlib.Omega.{arith}
use lib.ListN.{length, get_or, take, drop, drop_of_length-le}
use lib.Seq.{take-suc, take_all, length-take-le}
use lib.Dec.{T}
use Rattle.laws.specs.Below.{Below}
use Rattle.laws.proofs.BelowLaws.{below_take}
use Rattle.laws.proofs.Parts.{put, next_part}
use Rattle.patterns.specs.Patterns.{drawn}
use Rattle.patterns.proofs.CharacterLaws.{sized, length_of_drawn}

drawn_last : (patterns : List (List ℕ)) (values : List ℕ) (v : ℕ) → drawn patterns (values ++ (v ∷ [])) ≡ drawn patterns values ++ get_or patterns v []
unfolding drawn
drawn_last patterns [] v = append-nil (get_or patterns v [])
drawn_last patterns (w ∷ values) v =
    ap (λ (rest : List ℕ). get_or patterns w [] ++ rest) (drawn_last patterns values v)
    ∙ sym (append_assoc (get_or patterns w []) (drawn patterns values) (get_or patterns v []))

module _ (patterns : List (List ℕ)) (size : ℕ) (values to : List ℕ) where
  -- i characters were drawn
  abbrev pub DrawnTo : ℕ → List ℕ → Type 0
  DrawnTo i drawing = drawing ≡ drawn patterns (take i values) ++ drop (size * i) to

  pub draw_begins : DrawnTo 0 to
  unfolding drawn
  draw_begins = rw (mul-zero size)

  pub draw_goes : T (sized size patterns) → Below (length patterns) values → (i : ℕ) (drawing : List ℕ) → i < length values → DrawnTo i drawing → DrawnTo (i + 1) (put (size * i) (size * i + size) drawing (get_or patterns (get_or values i 0) []))
  draw_goes sizes below i drawing h so =
      let done = drawn patterns (take i values) in
      let new = get_or patterns (get_or values i 0) [] in
      let long : length done ≡ size * i = length_of_drawn patterns size sizes (take i values) (below_take (length patterns) i values below) ∙ ap (λ (n : ℕ). size * n) (length-take-le i values (omega arith)) in
      let next : size * i + size ≡ size * (i + 1) = sym (mul-add size i 1 ∙ ap (λ (n : ℕ). size * i + n) (mul-one size)) in
      let more : done ++ new ≡ drawn patterns (take (i + 1) values) = sym (rw (add-one, take-suc values i 0 h) (drawn_last patterns (take i values) (get_or values i 0))) in
      ap (λ (l : List ℕ). put (size * i) (size * i + size) l new) so
      ∙ next_part to done new (size * i) (size * i + size) long (omega arith)
      ∙ ap₂ (λ (front : List ℕ) (n : ℕ). front ++ drop n to) more next

  pub draw_ends : (i : ℕ) (drawing : List ℕ) → length values ≤ i → length to ≤ size * i → DrawnTo i drawing → drawing ≡ drawn patterns values
  draw_ends i drawing hv ht so =
      so ∙ ap₂ (λ (front back : List ℕ). front ++ back) (ap (drawn patterns) (take_all i values hv)) (drop_of_length-le to {i = size * i} ht) ∙ append-nil (drawn patterns values)
