-- Document 01, "Examples on each side": P1 to P14, and the examples of document 02's requests, each with what it gives, and what the rules make
-- of it: it is written, with room for any symbol, and what was written is read as a list whose kind is not named.
use Rattle.std.specs.Prelude.{ℕ, ◌≡◌, List, [], ◌∷◌, map, length}
use Prim.Native.String.{String}
use Rattle.refusal.specs.Outcome.{Outcome, made, refused, ◌>>=◌}
use Rattle.refusal.specs.Numbers.{number_of, place_of}
use Rattle.digits.specs.Digit.{value_of}
use Rattle.text.specs.Typed.{message_of}
use Rattle.spelling.specs.Best.{best_spelling}
use Rattle.gs1_128.specs.Symbol.{checked}
use Rattle.symbols.specs.declared.Kind.{Kind}
use Rattle.symbols.specs.declared.Kind.TheVariants.{Ean13, Ean8, UpcE, Itf14, Gs1128}
use Rattle.symbols.specs.Kinds.{writes_as}
use Rattle.symbols.specs.Readings.{reads}
use Rattle.laws.specs.Text.{as_bytes}

-- the symbol's characters (digits, or a spelling and its check) and its count of widths, and the kind and the bytes that are read from it;
-- or a refusal's number and place
pub data Shown : Type 0 where
  symbol : List ℕ → ℕ → Kind → List ℕ → Shown
  refusal : ℕ → ℕ → Shown

pub record Example : Type 0 where
  pub kind : Kind
  pub given : List ℕ
  pub shown : Shown

-- what is given, `^` for the separator, comes back from a symbol of its own kind
abbrev accepted : Kind → String → List ℕ → ℕ → Example
accepted kind text characters count =
    let given = message_of (as_bytes text) in
    record { kind = kind; given = given; shown = symbol characters count kind given }

abbrev refused_with : Kind → String → ℕ → ℕ → Example
refused_with kind text number place =
    record { kind = kind; given = message_of (as_bytes text); shown = refusal number place }

unfoldable pub examples : List Example
examples =
    -- P1
    accepted Ean13 "4006381333931" (4 ∷ 0 ∷ 0 ∷ 6 ∷ 3 ∷ 8 ∷ 1 ∷ 3 ∷ 3 ∷ 3 ∷ 9 ∷ 3 ∷ 1 ∷ []) 59
    ∷ refused_with Ean13 "4006381333932" 3 0
    -- P2
    ∷ accepted Ean8 "96385074" (9 ∷ 6 ∷ 3 ∷ 8 ∷ 5 ∷ 0 ∷ 7 ∷ 4 ∷ []) 43
    -- P3
    ∷ accepted Itf14 "10012345678902" (1 ∷ 0 ∷ 0 ∷ 1 ∷ 2 ∷ 3 ∷ 4 ∷ 5 ∷ 6 ∷ 7 ∷ 8 ∷ 9 ∷ 0 ∷ 2 ∷ []) 77
    ∷ refused_with Itf14 "10012345678903" 3 0
    -- P4 to P8
    ∷ accepted Gs1128 "2012" (105 ∷ 102 ∷ 20 ∷ 12 ∷ 77 ∷ []) 37
    ∷ accepted Gs1128 "10A" (104 ∷ 102 ∷ 17 ∷ 16 ∷ 33 ∷ 8 ∷ []) 43
    ∷ accepted Gs1128 "3012345" (104 ∷ 102 ∷ 19 ∷ 99 ∷ 1 ∷ 23 ∷ 45 ∷ 3 ∷ []) 55
    ∷ accepted Gs1128 "10AB^2112" (104 ∷ 102 ∷ 17 ∷ 16 ∷ 33 ∷ 34 ∷ 99 ∷ 102 ∷ 21 ∷ 12 ∷ 11 ∷ []) 73
    ∷ accepted Gs1128 "011001234567890210ABC123" (105 ∷ 102 ∷ 1 ∷ 10 ∷ 1 ∷ 23 ∷ 45 ∷ 67 ∷ 89 ∷ 2 ∷ 10 ∷ 100 ∷ 33 ∷ 34 ∷ 35 ∷ 17 ∷ 18 ∷ 19 ∷ 71 ∷ []) 121
    -- P9 to P14
    ∷ refused_with Gs1128 "10" 10 0
    ∷ refused_with Gs1128 "2012^10A" 9 4
    ∷ refused_with Gs1128 "3106000750" 9 0
    ∷ refused_with Gs1128 "17261300" 10 0
    ∷ refused_with Gs1128 "20122013" 11 4
    ∷ refused_with Gs1128 "0110012345678903" 10 0
    ∷ []

-- document 02, request 3: DD "must now exist in its month"
unfoldable pub existing_dates : List Example
existing_dates =
    refused_with Gs1128 "17260230" 10 0
    ∷ accepted Gs1128 "17280229" (105 ∷ 102 ∷ 17 ∷ 28 ∷ 2 ∷ 29 ∷ 66 ∷ []) 49
    -- "29 February needs a year YY divisible by 4 (00 is 2000)"
    ∷ refused_with Gs1128 "17270229" 10 0
    ∷ accepted Gs1128 "17000229" (105 ∷ 102 ∷ 17 ∷ 0 ∷ 2 ∷ 29 ∷ 85 ∷ []) 49
    -- "DD 00 stays"
    ∷ accepted Gs1128 "17260200" (105 ∷ 102 ∷ 17 ∷ 26 ∷ 2 ∷ 0 ∷ 18 ∷ []) 49
    -- the place of the second string
    ∷ refused_with Gs1128 "201217260431" 10 4
    ∷ []

-- of a number its digits, of a message the symbol characters
abbrev characters_of : Kind → List ℕ → List ℕ
characters_of Ean13 number = map value_of number
characters_of Ean8 number = map value_of number
characters_of UpcE number = map value_of number
characters_of Itf14 number = map value_of number
characters_of Gs1128 message = checked (best_spelling message)

abbrev shown_by : Outcome Shown → Shown
shown_by (made shown) = shown
shown_by (refused f) = refusal (number_of f) (place_of f)

-- what the rules make of an example
unfoldable pub ruled : Example → Shown
ruled example = shown_by (do
  widths ← writes_as example.kind example.given 619
  reading ← reads widths 48
  made (symbol (characters_of example.kind example.given) (length widths) reading.0 reading.1))

-- what a table says of its examples is what the rules make of them
abbrev pub Hold : List Example → Type 0
Hold table = map ruled table ≡ map (λ (example : Example). example.shown) table
