-- Document 01, "Code 128 characters": what each value means in sets A, B and C. FNC2, FNC3 and FNC4 are illegal here, and so are values
-- that no set has.
use Rattle.std.specs.Prelude.{ℕ, ◌+◌, ◌-◌, cond, eqb, ltb}
pub use Rattle.code_sets.specs.declared.sets.Set.{Set}
pub use Rattle.code_sets.specs.declared.sets.Set.TheVariants.{A as set_a, B as set_b, C as set_c}
pub use Rattle.code_sets.specs.declared.sets.Meaning.{Meaning}
pub use Rattle.code_sets.specs.declared.sets.Meaning.TheVariants.{Byte as byte, Pair as pair, Change as change, Shift as shift, Separator as separator, Illegal as illegal}

-- the byte of a value below 96: "Set A: 0 to 63 are bytes 32 to 95, 64 to 95 are bytes 0 to 31. Set B: 0 to 95 are bytes 32 to 127."
abbrev pub byte_in : Set → ℕ → ℕ
byte_in set_a value = cond (ltb value 64) (value + 32) (value - 64)
byte_in set_b value = value + 32
byte_in set_c value = value + 32

-- "Shift reads the next character only in the other of A and B"
abbrev pub other : Set → Set
other set_a = set_b
other set_b = set_a
other set_c = set_c

-- "A and B: 96 FNC3, 97 FNC2, 98 shift, 99 to set C. A: 100 to B, 101 FNC4. B: 100 FNC4, 101 to A": one value changes to the other of the two.
-- "102 is FNC1 in all three; after the first place it gives byte 29."
abbrev pub letter_control : ℕ → Set → ℕ → Meaning
letter_control other-by to value =
    cond (eqb value 98) shift (cond (eqb value 99) (change set_c) (cond (eqb value other-by) (change to) (cond (eqb value 102) separator illegal)))

-- "C: 100 to B, 101 to A"
abbrev pub digit_control : ℕ → Meaning
digit_control value = cond (eqb value 100) (change set_b) (cond (eqb value 101) (change set_a) (cond (eqb value 102) separator illegal))

-- "Set C: 0 to 99 are two digits."
unfoldable pub meaning_in : Set → ℕ → Meaning
meaning_in set_a value = cond (ltb value 96) (byte (byte_in set_a value)) (letter_control 100 set_b value)
meaning_in set_b value = cond (ltb value 96) (byte (byte_in set_b value)) (letter_control 101 set_a value)
meaning_in set_c value = cond (ltb value 100) (pair value) (digit_control value)
