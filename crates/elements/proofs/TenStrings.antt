-- Ten is the most strings that 48 bytes hold: six identifiers have strings of four bytes with what closes them, four of five, every other
-- one of eight or more, and each occurs once; so n strings take 8 n bytes less 4 for each of the six and 3 for each of the four.
use Rattle.std.specs.Prelude.{Option, Some, None}
use Prim.Native.Nat.{ℕ, ◌+◌, ◌*◌, ◌≤◌}
use mathlib.Core.Path.{◌≡◌, refl, sym, ap}
use mathlib.Core.Bool.{Bool, true, false, ◌||◌}
use mathlib.Core.List.{List, [], ◌∷◌}
use native.Mathlib.Omega.{arith}
use lib.ListN.{length}
use lib.Dec.{eqb, leb}
use borrow.Author.Tests.{eqb-true, eqb-false, leb-true}
use Rattle.laws.specs.First.{first_not}
use Rattle.identifiers.specs.declared.Kind.{Kind}
use Rattle.laws.specs.Among.{place_in, among}
use Rattle.identifiers.specs.Identifiers.{measures, table, kind_in, kind_of, spelled, identifiers_of, listed}
use Rattle.elements.specs.Messages.{ElementString, used_in, Right, AllRight, right_more, Different, different_more, closing, IsMessage}
use Rattle.laws.proofs.AmongLaws.{among_of_nil, among_more, all, all_among}
use Rattle.identifiers.proofs.ListedLaws.{listed_if_kind}
use Rattle.elements.proofs.PlainLaws.{sound}
use Rattle.elements.proofs.FromRelation.{bytes_of, bytes_most}

abbrev bit : Bool → ℕ
bit true = 1
bit false = 0

-- how many of the strings have one of these identifiers, and how many have this one
abbrev tally : List ℕ → List ElementString → ℕ
tally xs [] = 0
tally xs (s ∷ ss) = bit (among xs s.identifier) + tally xs ss

abbrev once : ℕ → List ElementString → ℕ
once x [] = 0
once x (s ∷ ss) = bit (eqb x s.identifier) + once x ss

bit_or : (a b : Bool) → bit (a || b) ≤ bit a + bit b
bit_or true true = omega arith
bit_or true false = omega arith
bit_or false b = omega arith

tally_none : (strings : List ElementString) → tally [] strings ≡ 0
tally_none [] = refl
tally_none (s ∷ ss) = rw (among_of_nil s.identifier) (omega (arith, tally_none ss))

tally_more : (x : ℕ) (xs : List ℕ) (strings : List ElementString) → tally (x ∷ xs) strings ≤ once x strings + tally xs strings
tally_more x xs [] = omega arith
tally_more x xs (s ∷ ss) = rw (among_more x xs s.identifier) (omega (arith, tally_more x xs ss, bit_or (eqb x s.identifier) (among xs s.identifier)))

absent : (x : ℕ) (strings : List ElementString) → among (used_in strings) x ≡ false → once x strings ≡ 0
absent x [] e = refl
absent x (s ∷ ss) e = go (eqb x s.identifier) refl (eqb s.identifier x) refl (rw (among_more s.identifier (used_in ss) x) at e) (absent x ss)
  where
    go : (a : Bool) → eqb x s.identifier ≡ a → (b : Bool) → eqb s.identifier x ≡ b → (b || among (used_in ss) x) ≡ false → (among (used_in ss) x ≡ false → once x ss ≡ 0) → bit a + once x ss ≡ 0
    go a p true q e later = absurd (let z : ◌≡◌ {A = ℕ} 0 1 = cc in omega arith)
    go true p false q e later = absurd (eqb-false s.identifier x q (sym (eqb-true x s.identifier p)))
    go false p false q e later = omega (arith, later e)

at_most_once : (x : ℕ) (strings : List ElementString) → Different strings → once x strings ≤ 1
at_most_once x [] d = omega arith
at_most_once x (s ∷ ss) (different_more d ds) = go (eqb x s.identifier) refl (at_most_once x ss ds)
  where
    go : (b : Bool) → eqb x s.identifier ≡ b → once x ss ≤ 1 → bit b + once x ss ≤ 1
    go true e later = omega (arith, absent x ss (rw (← eqb-true x s.identifier e) at d))
    go false e later = omega arith

tally_most : (xs : List ℕ) (strings : List ElementString) → Different strings → tally xs strings ≤ length xs
tally_most [] strings d = omega (arith, tally_none strings)
tally_most (x ∷ xs) strings d = omega (arith, tally_more x xs strings, tally_most xs strings d, at_most_once x strings d)

abbrev fours : List ℕ
fours = 20 ∷ 30 ∷ 37 ∷ 10 ∷ 21 ∷ 90 ∷ []

abbrev fives : List ℕ
fives = 240 ∷ 241 ∷ 250 ∷ 400 ∷ []

abbrev least_of : Option Kind → ℕ
least_of (Some kind) = kind.least
least_of None = 0

eight : ℕ → Bool
eight x = leb 8 (length (spelled x) + least_of (kind_of x) + length (closing x) + 4 * bit (among fours x) + 3 * bit (among fives x))

all_eight : all eight listed ≡ true
unfolding eight listed identifiers_of table measures spelled kind_of kind_in closing place_in first_not
all_eight = refl

right_eight : (s : ElementString) → Right s → 8 ≤ length (spelled s.identifier) + length s.content + length (closing s.identifier) + 4 * bit (among fours s.identifier) + 3 * bit (among fives s.identifier)
unfolding eight
right_eight s r =
    let x = s.identifier in
    let least : least_of (kind_of x) ≤ length s.content = rw r.listed (sound r.kind s.content r.right).least in
    let enough : 8 ≤ length (spelled x) + least_of (kind_of x) + length (closing x) + 4 * bit (among fours x) + 3 * bit (among fives x) = leb-true _ _ (all_among eight listed all_eight x (listed_if_kind x r.kind r.listed)) in
    omega arith

bytes_eight : (strings : List ElementString) → AllRight strings → 8 * length strings ≤ bytes_of strings + 4 * tally fours strings + 3 * tally fives strings
bytes_eight [] rs = omega arith
bytes_eight (s ∷ ss) (right_more r rs) = omega (arith, bytes_eight ss rs, right_eight s r)

pub ten_of_message : (message : List ℕ) (strings : List ElementString) → IsMessage message strings → length strings ≤ 10
ten_of_message message [] m = omega arith
ten_of_message message (s ∷ ss) m =
    omega (arith, bytes_eight (s ∷ ss) m.right, tally_most fours (s ∷ ss) m.different, tally_most fives (s ∷ ss) m.different, bytes_most s ss, ap length m.whole, m.most)
