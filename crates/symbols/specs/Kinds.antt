-- Document 01: "The reader of an unnamed list chooses the kind by count, and its reading names the kind; 43 is EAN-8 if the first width is 1,
-- else GS1-128. A count of no kind is refusal 1." Document 02, request 1: "A list of 33 widths now counts as this kind."
use Rattle.std.specs.Prelude.{ℕ, Bool, cond, List, length, get_or, eqb}
use Rattle.refusal.specs.declared.Refusal.TheVariants.{Count}
use Rattle.refusal.specs.Outcome.{Outcome, made, ◌>>◌, must}
use Rattle.ean13.specs.Ean13.{reads as reads13, writes as writes13}
use Rattle.ean8.specs.Ean8.{reads as reads8, writes as writes8}
use Rattle.upc_e.specs.UpcE.{reads as reads_e, writes as writes_e}
use Rattle.itf14.specs.Itf14.{reads as reads14, writes as writes14}
use Rattle.gs1_128.specs.Symbol.{permitted}
use Rattle.gs1_128.specs.Rules as Gs1
use Rattle.symbols.specs.declared.Kind.{Kind}
use Rattle.symbols.specs.declared.Kind.TheVariants.{Ean13, Ean8, UpcE, Itf14, Gs1128}

-- whether a kind has symbols of so many widths
abbrev pub has_count : Kind → ℕ → Bool
has_count Ean13 count = eqb count 59
has_count Ean8 count = eqb count 43
has_count UpcE count = eqb count 33
has_count Itf14 count = eqb count 77
has_count Gs1128 count = permitted count

-- the kind of a list of so many widths that begins with `first`
abbrev pub kind_by : ℕ → ℕ → Outcome Kind
kind_by count first =
    cond (eqb count 59) (made Ean13)
    (cond (eqb count 43) (made (cond (eqb first 1) Ean8 Gs1128))
    (cond (eqb count 33) (made UpcE)
    (cond (eqb count 77) (made Itf14)
    (must (permitted count) Count >> made Gs1128))))

unfoldable pub kind_of : List ℕ → Outcome Kind
kind_of widths = kind_by (length widths) (get_or widths 0 0)

-- the rule of the kind's own reader
unfoldable pub reads_as : Kind → List ℕ → ℕ → Outcome (List ℕ)
reads_as Ean13 = reads13
reads_as Ean8 = reads8
reads_as UpcE = reads_e
reads_as Itf14 = reads14
reads_as Gs1128 = Gs1.reads

-- and of its writer
unfoldable pub writes_as : Kind → List ℕ → ℕ → Outcome (List ℕ)
writes_as Ean13 = writes13
writes_as Ean8 = writes8
writes_as UpcE = writes_e
writes_as Itf14 = writes14
writes_as Gs1128 = Gs1.writes
