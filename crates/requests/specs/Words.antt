-- The desk's words, one row each: the word, the arguments that follow it with single spaces between them, how many places the call is
-- lent where `room` doesn't say (700 widths, 12 records, 64 bytes), and the call.
use Rattle.std.specs.Prelude.{ℕ, cond, List, [], ◌∷◌, ◌++◌, Option, Some, None}
use Prim.Native.String.{String}
use denote.Bor.{Bor}
use Rattle.laws.specs.Text.{as_bytes}
use Rattle.patterns.specs.Patterns.{same}
use Rattle.symbols.specs.declared.Kind.TheVariants.{Ean13, Ean8, UpcE, Itf14, Gs1128}
use Rattle.requests.specs.declared.Argument.{Argument}
use Rattle.requests.specs.declared.Argument.TheVariants.{Digits, Number, Message, Widths, Identifier, Data}
use Rattle.requests.specs.declared.Word.{Word}
use Rattle.requests.specs.declared.words.Named.{Named}
use Rattle.requests.specs.declared.Word.TheVariants.{Digit, Draw, Read, Test, Split, Ask, Add}

pub record Row : Type 0 where
  pub word : List ℕ
  pub first : Argument
  pub others : List Argument
  pub usual : ℕ
  pub call : Word

abbrev pub row : String → Argument → List Argument → ℕ → Word → Row
row word first others usual call = record { word = as_bytes word; first = first; others = others; usual = usual; call = call }

abbrev pub drawing : List Row
drawing =
    row "digit" Digits [] 64 Digit
    ∷ row "ean13" Number [] 700 (Draw Ean13)
    ∷ row "ean8" Number [] 700 (Draw Ean8)
    ∷ row "upce" Number [] 700 (Draw UpcE)
    ∷ row "itf14" Number [] 700 (Draw Itf14)
    ∷ row "gs1" Message [] 700 (Draw Gs1128)
    ∷ []

abbrev pub reading : List Row
reading =
    row "read-ean13" Widths [] 64 (Read (Some Ean13))
    ∷ row "read-ean8" Widths [] 64 (Read (Some Ean8))
    ∷ row "read-upce" Widths [] 64 (Read (Some UpcE))
    ∷ row "read-itf14" Widths [] 64 (Read (Some Itf14))
    ∷ row "read-gs1" Widths [] 64 (Read (Some Gs1128))
    ∷ row "read" Widths [] 64 (Read None)
    ∷ []

abbrev pub on_messages : List Row
on_messages =
    row "test" Message [] 64 Test
    ∷ row "split" Message [] 12 Split
    ∷ row "ask" Identifier (Message ∷ []) 64 Ask
    ∷ row "add" Identifier (Data ∷ Message ∷ []) 64 Add
    ∷ []

unfoldable pub calls : List Row
calls = drawing ++ reading ++ on_messages

-- the call that a word names, the argument that must follow it, and the usual count of places
unfoldable pub named_in : List Row → List ℕ → Option Named
named_in [] word = None
named_in (row ∷ rows) word = cond (same word row.word) (Some (record { first = row.first; usual = row.usual; call = row.call })) (named_in rows word)

-- the same for rows as code holds them
abbrev pub row_of : Bor (List ℕ) × Argument × ℕ × Word → List ℕ × Named
row_of row = (row.0.now, record { first = row.1; usual = row.2; call = row.3 })

unfoldable pub named_by : List (List ℕ × Named) → List ℕ → Option Named
named_by [] word = None
named_by (row ∷ rows) word = cond (same word row.0) (Some row.1) (named_by rows word)
