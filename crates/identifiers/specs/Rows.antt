-- What the inner calls answer, in the terms of the table: a row that an identifier or some bytes have, and what a test of data relies on.
use Rattle.std.specs.Prelude.{ℕ, Bool, true, cond, ◌&&◌, List, [], ◌∷◌, leb, eqb, Some, None, Option}
use Rattle.laws.specs.Among.{among}
use Rattle.identifiers.specs.declared.Content.{Content}
use Rattle.identifiers.specs.declared.Content.TheVariants.{DigitsWithCheck, Date, Digits, Text}
use Rattle.identifiers.specs.declared.Kind.{Kind}
use Rattle.identifiers.specs.Identifiers.{kind_of, identifier_in}

-- how many digits the identifiers have that begin with these two
unfoldable pub digits_after : ℕ → ℕ
digits_after pair = cond (among (24 ∷ 25 ∷ 40 ∷ 41 ∷ []) pair) 3 (cond (eqb pair 31) 4 2)

-- a listed identifier with its kind; and the one that these bytes begin with
abbrev pub with_kind : ℕ → Option Kind → Option (ℕ × Kind)
with_kind identifier (Some kind) = Some (identifier, kind)
with_kind identifier None = None

unfoldable pub row_of : ℕ → Option (ℕ × Kind)
row_of identifier = with_kind identifier (kind_of identifier)

abbrev pub row_in : Option ℕ → Option (ℕ × Kind)
row_in (Some identifier) = row_of identifier
row_in None = None

unfoldable pub row_at : List ℕ → Option (ℕ × Kind)
row_at bytes = row_in (identifier_in bytes)

-- what a test of data relies on, and every row of the table has: a date of six bytes, a number with check digit of 1 to 18
unfoldable pub sized_as : Content → Kind → Bool
sized_as DigitsWithCheck kind = leb 1 kind.least && leb kind.most 18
sized_as Date kind = eqb kind.least 6 && eqb kind.most 6
sized_as Digits kind = true
sized_as Text kind = true

unfoldable pub sized : Kind → Bool
sized kind = sized_as kind.content kind
