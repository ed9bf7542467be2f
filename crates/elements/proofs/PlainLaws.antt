-- Right data has no separator in it and no byte that a message can't have; so the bytes of strings that are joined are a message's, and
-- data runs to the separator that was put after it, or to the end.
use Rattle.std.specs.Prelude.{Some}
use Prim.Native.Nat.{ℕ, ◌≤◌}
use mathlib.Core.Path.{◌≡◌, refl, sym}
use mathlib.Core.Bool.{Bool, true, false, cond, not, ◌&&◌}
use mathlib.Core.List.{List, [], ◌∷◌, ◌++◌}
use native.Mathlib.Omega.{arith}
use lib.ListN.{length, take}
use lib.Seq.{take_all, take_at}
use lib.Dec.{eqb, leb}
use borrow.Author.Tests.{eqb-true, leb-true}
use Rattle.laws.specs.First.{first_not}
use Rattle.laws.proofs.Booleans.{both_hold}
use Rattle.laws.proofs.FirstLaws.{first_at_seam, pass_also}
use Rattle.digits.specs.Digit.{is_digit}
use Rattle.identifiers.specs.declared.Content.{Content}
use Rattle.identifiers.specs.declared.Content.TheVariants.{DigitsWithCheck, Date, Digits, Text}
use Rattle.identifiers.specs.declared.Kind.{Kind}
use Rattle.character_set_82.specs.Characters.{is_of82, separator, to_separator}
use Rattle.identifiers.specs.Data.{all_pass, is_number, passes, right_data}
use Rattle.identifiers.specs.Identifiers.{table, kind_of}
use Rattle.elements.specs.Strings.{data_of}
use Rattle.identifiers.proofs.ListedLaws.{all_rows, kind_passes}
use Rattle.identifiers.proofs.DateLaws.{parts_of_date}
use Rattle.character_set_82.proofs.CharacterLaws.{digit_of_82, no_separator}

passes_of_82 : (content : Content) (bytes : List ℕ) → passes content bytes ≡ true → first_not is_of82 bytes ≡ length bytes
unfolding passes is_number
passes_of_82 DigitsWithCheck bytes e = pass_also is_digit is_of82 digit_of_82 bytes (eqb-true _ _ (both_hold (all_pass is_digit bytes) _ e).0)
passes_of_82 Date bytes e = pass_also is_digit is_of82 digit_of_82 bytes (eqb-true _ _ (parts_of_date bytes e).digits)
passes_of_82 Digits bytes e = pass_also is_digit is_of82 digit_of_82 bytes (eqb-true _ _ e)
passes_of_82 Text bytes e = eqb-true _ _ e

-- what is known of right data
pub record Sound (kind : Kind) (bytes : List ℕ) : Type 0 where
  pub least : kind.least ≤ length bytes
  pub most : length bytes ≤ kind.most
  pub of_82 : first_not is_of82 bytes ≡ length bytes

pub sound : (kind : Kind) (bytes : List ℕ) → right_data kind bytes ≡ true → Sound kind bytes
unfolding right_data
sound kind bytes e =
    let a = both_hold (leb kind.least (length bytes) && leb (length bytes) kind.most) (passes kind.content bytes) e in
    let b = both_hold (leb kind.least (length bytes)) (leb (length bytes) kind.most) a.0 in
    record { least = leb-true _ _ b.0; most = leb-true _ _ b.1; of_82 = passes_of_82 kind.content bytes a.1 }

-- a predefined length is one length
one_length : Kind → Bool
one_length kind = cond kind.predefined (eqb kind.least kind.most) true

all_one : all_rows one_length table ≡ true
unfolding one_length table
all_one = refl

one_length_lem : (x : ℕ) (kind : Kind) → kind_of x ≡ Some kind → kind.predefined ≡ true → kind.least ≡ kind.most
unfolding kind_of one_length
one_length_lem x kind e is = eqb-true _ _ (rw is at (kind_passes one_length table all_one x kind e))

module _ (kind : Kind) (bytes : List ℕ) (s : Sound kind bytes) where
  plain : first_not (λ (b : ℕ). not (eqb b separator)) bytes ≡ length bytes
  plain = pass_also is_of82 (λ (b : ℕ). not (eqb b separator)) no_separator bytes s.of_82

  -- data that ends the message
  pub data_at_end : data_of kind bytes ≡ bytes
  unfolding data_of to_separator
  data_at_end = go kind.predefined
    where
      go : (p : Bool) → take (cond p kind.most (to_separator bytes)) bytes ≡ bytes
      go true = take_all kind.most bytes s.most
      go false = take_all (to_separator bytes) bytes (omega (arith, plain))

  -- data that something follows
  pub data_before : (x : ℕ) → kind_of x ≡ Some kind → (more : List ℕ) → data_of kind (bytes ++ (cond kind.predefined [] (separator ∷ []) ++ more)) ≡ bytes
  unfolding data_of to_separator
  data_before x is more = go kind.predefined refl
    where
      go : (p : Bool) → kind.predefined ≡ p → take (cond p kind.most (to_separator (bytes ++ (cond p [] (separator ∷ []) ++ more)))) (bytes ++ (cond p [] (separator ∷ []) ++ more)) ≡ bytes
      go true e = take_at bytes more kind.most (let one = one_length_lem x kind is e in omega (arith, s.least, s.most))
      go false e = take_at bytes (separator ∷ more) _ (sym (first_at_seam (λ (b : ℕ). not (eqb b separator)) bytes separator more plain refl))
