-- The best spelling of a message is a legal one: from each set, each step of it is a step of the relation.
use Rattle.std.specs.Prelude.{Option}
use Prim.Native.Nat.{ℕ, zero, suc, ◌+◌, ◌-◌, ◌/◌, ◌%◌, ◌≤◌, ◌<◌}
use mathlib.Core.Path.{◌≡◌, refl, sym, ap, subst, subst₂}
use mathlib.Core.Bool.{Bool, true, false, cond, ◌&&◌, ◌||◌}
use mathlib.Core.List.{List, [], ◌∷◌}
use native.Mathlib.Nat.{suc_inj}
use native.Mathlib.Omega.{arith}
use lib.ListN.{length, drop}
use lib.Dec.{eqb, leb}
use borrow.Author.Tests.{lt-ltb, eqb-true, leb-true}
use Rattle.laws.specs.First.{first_not}
use Rattle.laws.proofs.Booleans.{both_hold}
use Rattle.digits.specs.Digit.{is_digit}
use Rattle.digits.proofs.DigitLaws.{digit_range}
use Rattle.character_set_82.specs.Characters.{eighty_two, is_of82, separator, is_message_byte}
use Rattle.laws.proofs.AmongLaws.{all_among}
use Rattle.code_sets.specs.declared.sets.Set.TheVariants.{B as set_b, C as set_c}
use Rattle.code_sets.specs.declared.sets.Meaning.TheVariants.{Byte as byte, Pair as pair}
use Rattle.code_sets.specs.Sets.{meaning_in}
use Rattle.code_sets.specs.Spelling.{ended, a_byte, a_pair, a_change, a_separator, SpellsBC, Plain, Spelled}
use Rattle.spelling.specs.Best.{better_of, value_b, chosen, bests, best_spelling, from_b, from_c}
use Rattle.spelling.proofs.OrderLaws.{better_of_two}
use Rattle.code_sets.proofs.MeaningLaws.{spelled_below}
use Rattle.spelling.proofs.BestLaws.{pair_of, Begins, with_separator, with_pair, with_change, begins}

pub range_of_82 : (b : ℕ) → is_of82 b ≡ true → (33 ≤ b) × (b ≤ 122)
unfolding is_of82 eighty_two
range_of_82 b e =
    let both = both_hold (leb 33 b) (leb b 122) (all_among (λ (x : ℕ). leb 33 x && leb x 122) eighty_two refl b e) in
    (leb-true 33 b both.0, leb-true b 122 both.1)

-- the first byte of a plain text, and the rest
plain_parts : (b : ℕ) (rest : List ℕ) → Plain (b ∷ rest) → (is_message_byte b ≡ true) × Plain rest
unfolding first_not
plain_parts b rest plain = go (is_message_byte b) plain
  where
    go : (t : Bool) → cond t (suc (first_not is_message_byte rest)) zero ≡ suc (length rest) → (t ≡ true) × Plain rest
    go true e = (refl, suc_inj e)
    go false e = absurd (omega arith)

means_byte : (b : ℕ) → is_of82 b ≡ true → meaning_in set_b (b - 32) ≡ byte b
unfolding meaning_in
means_byte b e =
    let range = range_of_82 b e in
    rw (lt-ltb (b - 32) 96 (omega arith)) (ap byte (omega arith))

means_pair : (v : ℕ) → v < 100 → meaning_in set_c v ≡ pair v
unfolding meaning_in
means_pair v h = rw (lt-ltb v 100 h)

-- a byte's value in set B
spells_byte : (b : ℕ) (values rest : List ℕ) → is_message_byte b ≡ true → SpellsBC set_b values rest → SpellsBC set_b (value_b b ∷ values) (b ∷ rest)
unfolding is_message_byte meaning_in
spells_byte b values rest is s = go (eqb b separator) refl is
  where
    of82 : (t : Bool) → is_of82 b ≡ t → (t || false) ≡ true → is_of82 b ≡ true
    of82 true p e = p
    of82 false p e = absurd (let z : ◌≡◌ {A = ℕ} 0 1 = cc in omega arith)

    go : (t : Bool) → eqb b separator ≡ t → (is_of82 b || t) ≡ true → SpellsBC set_b (cond t 102 (b - 32) ∷ values) (b ∷ rest)
    go true e is = subst (λ (x : ℕ). SpellsBC set_b (102 ∷ values) (x ∷ rest)) (sym (eqb-true b separator e)) (a_separator refl s.0, s.1)
    go false e is = let legal = of82 (is_of82 b) refl is in (a_byte (means_byte b legal) legal s.0, s.1)

-- two digits as one value of set C
spells_pair : (a b : ℕ) (values rest : List ℕ) → is_digit a ≡ true → is_digit b ≡ true → SpellsBC set_c values rest → SpellsBC set_c (pair_of a b ∷ values) (a ∷ b ∷ rest)
spells_pair a b values rest p q s =
    let range-a = digit_range a p in
    let range-b = digit_range b q in
    let tens : 48 + pair_of a b / 10 ≡ a = omega arith in
    let ones : 48 + pair_of a b % 10 ≡ b = omega arith in
    subst₂ (λ (x y : ℕ). SpellsBC set_c (pair_of a b ∷ values) (x ∷ y ∷ rest)) tens ones (a_pair (means_pair (pair_of a b) (omega arith)) s.0, s.1)

-- a change before it
changes_to_c : (values text : List ℕ) → SpellsBC set_c values text → SpellsBC set_b (99 ∷ values) text
unfolding meaning_in
changes_to_c values text s = (a_change refl s.0, (λ e. let z : ◌≡◌ {A = ℕ} 0 1 = cc in omega arith, s.1))

changes_to_b : (values text : List ℕ) → SpellsBC set_b values text → SpellsBC set_c (100 ∷ values) text
unfolding meaning_in
changes_to_b values text s = (a_change refl s.0, (λ e. let z : ◌≡◌ {A = ℕ} 0 1 = cc in omega arith, s.1))

-- values for set B and values for set C that both spell a text
abbrev Both : List ℕ → List ℕ → List ℕ → Type 0
Both b c text = SpellsBC set_b b text × SpellsBC set_c c text

chosen_legal : (b c text : List ℕ) → Both b c text → Both (better_of b (99 ∷ c)) (better_of c (100 ∷ b)) text
chosen_legal b c text s = (
  better_of_two (λ (values : List ℕ). SpellsBC set_b values text) b (99 ∷ c) s.0 (changes_to_c c text s.1),
  better_of_two (λ (values : List ℕ). SpellsBC set_c values text) c (100 ∷ b) s.1 (changes_to_b b text s.0),
)

step_legal : {first : ℕ} {rest : List ℕ} {o : Option (List ℕ)} → Begins first rest o → (b : List ℕ) → SpellsBC set_b b (first ∷ rest) → SpellsBC set_c (from_c rest) rest → SpellsBC set_c (from_c (drop 1 rest)) (drop 1 rest) → Both (chosen b o).in_b (chosen b o).in_c (first ∷ rest)
unfolding meaning_in
step_legal (with_separator {rest = rest}) b in_b after after2 =
    chosen_legal b (102 ∷ from_c rest) (separator ∷ rest) (in_b, (a_separator refl after.0, after.1))
step_legal (with_pair {a = d} {b = e} {rest = rest} p q) b in_b after after2 =
    chosen_legal b (pair_of d e ∷ from_c rest) (d ∷ e ∷ rest) (in_b, spells_pair d e (from_c rest) rest p q after2)
step_legal (with_change {byte = first} {rest = rest}) b in_b after after2 = (in_b, changes_to_b b (first ∷ rest) in_b)

-- for a text and for the text past its first byte
legal_twice : (text : List ℕ) → Plain text → Both (from_b text) (from_c text) text × Both (from_b (drop 1 text)) (from_c (drop 1 text)) (drop 1 text)
unfolding bests
legal_twice [] plain = (((ended, tt), (ended, tt)), ((ended, tt), (ended, tt)))
legal_twice (first ∷ rest) plain =
    let parts = plain_parts first rest plain in
    let after = legal_twice rest parts.1 in (
      step_legal (begins first rest) (value_b first ∷ from_b rest) (spells_byte first (from_b rest) rest parts.0 after.0.0) after.0.1 after.1.1,
      after.0,
    )

pub b_is_legal : (text : List ℕ) → Plain text → SpellsBC set_b (from_b text) text
b_is_legal text plain = (legal_twice text plain).0.0

pub c_is_legal : (text : List ℕ) → Plain text → SpellsBC set_c (from_c text) text
c_is_legal text plain = (legal_twice text plain).0.1

pub best_is_spelled : (text : List ℕ) → Plain text → Spelled (best_spelling text) text
unfolding best_spelling
best_is_spelled text plain =
    let (in_b, only_b) = b_is_legal text plain in
    let (in_c, only_c) = c_is_legal text plain in
    better_of_two (λ (spelling : List ℕ). Spelled spelling text) (104 ∷ 102 ∷ from_b text) (105 ∷ 102 ∷ from_c text)
    (record { start = 104; values = from_b text; is = refl; least = omega arith; most = omega arith; spells = in_b; allowed = spelled_below in_b; only = only_b })
    (record { start = 105; values = from_c text; is = refl; least = omega arith; most = omega arith; spells = in_c; allowed = spelled_below in_c; only = only_c })
