-- The 82 are five ranges, digits are among them and the separator is not, by computed tests; a message's bytes are the 82 and the separator.
use Rattle.std.specs.Char.{is_ascii_alphabetic}
use Rattle.std.specs.Int.{is_in_range}
use Prim.Native.Nat.{ℕ, ◌<◌}
use mathlib.Core.Path.{◌≡◌, refl}
use mathlib.Core.Bool.{Bool, true, false, not, ◌||◌}
use native.Mathlib.Omega.{arith}
use lib.Dec.{eqb}
use borrow.Author.Tests.{eqb-true}
use Rattle.laws.specs.First.{first_not}
use Rattle.laws.specs.Among.{place_in}
use Rattle.laws.proofs.AmongLaws.{in_run, same_run}
use Rattle.digits.specs.Digit.{is_digit}
use Rattle.digits.proofs.DigitLaws.{digit_range}
use Rattle.character_set_82.specs.Characters.{eighty_two, is_of82, separator, is_message_byte}

abbrev pub in_ranges : ℕ → Bool
in_ranges b = is_in_range 37 63 b || is_ascii_alphabetic b || is_in_range 33 34 b || eqb b 95

pub ranges_of_82 : (b : ℕ) → b < 256 → is_of82 b ≡ in_ranges b
unfolding is_of82 eighty_two place_in first_not
ranges_of_82 b h = same_run in_ranges is_of82 0 256 tt b (omega arith) (omega arith)

pub digit_of_82 : (b : ℕ) → is_digit b ≡ true → is_of82 b ≡ true
unfolding is_of82 eighty_two place_in first_not
digit_of_82 b e = let range = digit_range b e in in_run is_of82 48 10 true tt b (omega arith) (omega arith)

pub message_byte : (b : ℕ) → is_of82 b ≡ true → is_message_byte b ≡ true
unfolding is_message_byte
message_byte b e = rw e

pub separator_byte : is_message_byte separator ≡ true
unfolding is_message_byte is_of82 eighty_two place_in first_not
separator_byte = refl

separator_not : is_of82 separator ≡ false
unfolding is_of82 eighty_two place_in first_not
separator_not = refl

pub no_separator : (b : ℕ) → is_of82 b ≡ true → not (eqb b separator) ≡ true
no_separator b e = go (eqb b separator) refl
  where
    go : (t : Bool) → eqb b separator ≡ t → not t ≡ true
    go false p = refl
    go true p = absurd (let is : b ≡ separator = eqb-true b separator p in let no = separator_not in let z : ◌≡◌ {A = ℕ} 0 1 = cc in omega arith)
