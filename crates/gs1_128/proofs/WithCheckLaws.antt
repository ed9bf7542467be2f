-- A spelling at the front of a list, and the place after it, where its check character goes.
use Prim.Native.Nat.{ℕ, suc, ◌+◌, ◌-◌, ◌<◌}
use mathlib.Core.Path.{◌≡◌, ap, ap₂, ◌∙◌}
use mathlib.Core.List.{List, [], ◌∷◌, ◌++◌}
use native.Mathlib.Numerals.{add-one}
use native.Mathlib.Omega.{arith}
use lib.ListN.{length, get_or, set, take, drop, length-append}
use lib.Seq.{take_at, take-suc-set}
use Rattle.code128.specs.Check.{check_of}
use Rattle.gs1_128.specs.Symbol.{checked}

module _ (list : List ℕ) (start : ℕ) (values behind : List ℕ) (is : list ≡ (start ∷ values) ++ behind) (count : ℕ) (counts : count ≡ suc (length values)) where
  pub first_is : get_or list 0 0 ≡ start
  first_is = ap (λ (l : List ℕ). get_or l 0 0) is

  pub values_are : take (count - 1) (drop 1 list) ≡ values
  values_are = ap (λ (l : List ℕ). take (count - 1) (drop 1 l)) is ∙ take_at values behind (count - 1) (omega arith)

  pub length_checked : length (checked (start ∷ values)) ≡ count + 1
  length_checked = simp length-append (omega arith)

  pub check_added : (check : ℕ) → check ≡ check_of (get_or list 0 0) (take (count - 1) (drop 1 list)) → count < length list → take (count + 1) (set list count check) ≡ checked (start ∷ values)
  check_added check e h =
      let front : take count list ≡ start ∷ values = ap (take count) is ∙ take_at (start ∷ values) behind count (omega arith) in
      let right : check ≡ check_of start values = e ∙ ap₂ check_of first_is values_are in
      rw add-one (take-suc-set list count check h ∙ ap₂ (λ (l : List ℕ) (v : ℕ). l ++ (v ∷ [])) front right)
