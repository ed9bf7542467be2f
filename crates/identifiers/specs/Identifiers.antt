-- Document 01, "Element strings": the table of identifiers. No listed identifier begins with another one's digits, so at most one begins at
-- any place.
use Rattle.std.specs.Prelude.{ℕ, ◌+◌, ◌/◌, ◌%◌, true, false, cond, List, [], ◌∷◌, ◌++◌, length, take, ltb, Option, Some, None}
use Rattle.patterns.specs.Patterns.{same}
use Rattle.identifiers.specs.declared.Content.{Content}
use Rattle.identifiers.specs.declared.Content.TheVariants.{DigitsWithCheck, Date, Digits, Text}
use Rattle.identifiers.specs.declared.Kind.{Kind}
use Rattle.laws.specs.Run.{run}
use Rattle.laws.specs.Among.{among}

-- data of a predefined length
abbrev pub exactly : ℕ → Content → Kind
exactly size content = record { predefined = true; least = size; most = size; content = content }

-- data of variable length
abbrev pub up_to : ℕ → Content → Kind
up_to most content = record { predefined = false; least = 1; most = most; content = content }

-- "310y to 316y, y 0 to 5"
unfoldable pub measures : List ℕ
measures = run 3100 6 ++ run 3110 6 ++ run 3120 6 ++ run 3130 6 ++ run 3140 6 ++ run 3150 6 ++ run 3160 6

-- a row for each kind: its identifiers, and what their data is
unfoldable pub table : List (List ℕ × Kind)
table =
    (0 ∷ [], exactly 18 DigitsWithCheck)
    ∷ (1 ∷ 2 ∷ [], exactly 14 DigitsWithCheck)
    ∷ (410 ∷ 411 ∷ 412 ∷ 413 ∷ 414 ∷ 415 ∷ [], exactly 13 DigitsWithCheck)
    ∷ (11 ∷ 12 ∷ 13 ∷ 15 ∷ 16 ∷ 17 ∷ [], exactly 6 Date)
    ∷ (20 ∷ [], exactly 2 Digits)
    ∷ (measures, exactly 6 Digits)
    ∷ (30 ∷ 37 ∷ [], up_to 8 Digits)
    ∷ (10 ∷ 21 ∷ [], up_to 20 Text)
    ∷ (240 ∷ 241 ∷ 250 ∷ 400 ∷ 90 ∷ [], up_to 30 Text)
    ∷ []

unfoldable pub kind_in : List (List ℕ × Kind) → ℕ → Option Kind
kind_in [] identifier = None
kind_in (row ∷ rows) identifier = cond (among row.0 identifier) (Some row.1) (kind_in rows identifier)

-- the kind of an identifier, if it is listed
unfoldable pub kind_of : ℕ → Option Kind
kind_of identifier = kind_in table identifier

-- an identifier as its digits: 0 is `00`, 240 is `240`, 3102 is `3102`
unfoldable pub spelled : ℕ → List ℕ
spelled n =
    cond (ltb n 100) ((48 + n / 10) ∷ (48 + n % 10) ∷ [])
    (cond (ltb n 1000) ((48 + n / 100) ∷ (48 + n / 10 % 10) ∷ (48 + n % 10) ∷ [])
    ((48 + n / 1000) ∷ (48 + n / 100 % 10) ∷ (48 + n / 10 % 10) ∷ (48 + n % 10) ∷ []))

unfoldable pub first_of : List ℕ → List ℕ → Option ℕ
first_of [] bytes = None
first_of (identifier ∷ more) bytes =
    cond (same (spelled identifier) (take (length (spelled identifier)) bytes)) (Some identifier) (first_of more bytes)

unfoldable pub identifiers_of : List (List ℕ × Kind) → List ℕ
identifiers_of [] = []
identifiers_of (row ∷ rows) = row.0 ++ identifiers_of rows

-- every listed identifier
unfoldable pub listed : List ℕ
listed = identifiers_of table

-- the listed identifier that these bytes begin with
unfoldable pub identifier_in : List ℕ → Option ℕ
identifier_in bytes = first_of listed bytes
