-- What is read from a UPC-E, with a 0 before it, is a right number of thirteen digits: a 0 in front has no weight in the sum.
use Prim.Native.Nat.{ℕ, suc, ◌<◌}
use mathlib.Core.Path.{◌≡◌, refl, sym, ap, ◌∙◌}
use mathlib.Core.List.{List, [], ◌∷◌, map}
use native.Mathlib.Nat.{mul-zero, zero-add, not-suc-le-zero}
use native.Mathlib.Numerals.{unary_clauses}
use native.Mathlib.Omega.{arith}
use lib.ListN.{length, length-map}
use Rattle.laws.specs.First.{first_not}
use Rattle.laws.specs.Weighed.{weighed}
use Rattle.refusal.specs.Outcome.{made}
use Rattle.digits.specs.Digit.{value_of}
use Rattle.digits.specs.Check.{is_right, right_number}
use Rattle.digits.proofs.NumberedLaws.{right_of_parts}
use Rattle.upc_e.specs.UpcE.{reads}
use Rattle.upc_e.proofs.Theorems.{right_of_read}

right_after_zero : (ds : List ℕ) → 0 < length ds → is_right (0 ∷ ds) ≡ is_right ds
unfolding is_right weighed
right_after_zero [] some = absurd (not-suc-le-zero some)
right_after_zero (d ∷ ds) some = simp (unary_clauses, mul-zero, zero-add)

pub as_ean13 : (widths number : List ℕ) (room : ℕ) → reads widths room ≡ made number → right_number 13 (48 ∷ number) ≡ made (0 ∷ map value_of number)
unfolding first_not
as_ean13 widths number room e =
    let known = right_of_read widths number room e in
    let some : 0 < length (map value_of number) = rw length-map (omega (arith, known.counted)) in
    right_of_parts 13 (48 ∷ number) (0 ∷ map value_of number)
    (record {
      counted = ap suc known.counted;
      all = ap suc known.all;
      values = refl;
      right = right_after_zero (map value_of number) some ∙ ap is_right (sym known.values) ∙ known.right;
    })
