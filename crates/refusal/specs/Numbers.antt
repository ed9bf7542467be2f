-- Document 01, "Refusal numbers": each refusal's number, and its place. "The place is 0 unless the table says otherwise." Document 02, request 1,
-- adds 14.
use Rattle.std.specs.Prelude.{ℕ, List, ◌∷◌, ◌++◌, decimal}
use Rattle.refusal.specs.declared.Refusal.{Refusal}
use Rattle.refusal.specs.declared.Refusal.TheVariants.{Count, Character, CheckDigit, Guard, Pattern, CheckCharacter, FirstCharacter, Sequence, Identifier, Data, Repeated, Room, Absent, Condensed}

abbrev pub number_of : Refusal → ℕ
number_of Count = 1
number_of (Character place) = 2
number_of CheckDigit = 3
number_of Guard = 4
number_of (Pattern place) = 5
number_of CheckCharacter = 6
number_of FirstCharacter = 7
number_of Sequence = 8
number_of (Identifier place) = 9
number_of (Data place) = 10
number_of (Repeated place) = 11
number_of Room = 12
number_of Absent = 13
number_of Condensed = 14

abbrev pub place_of : Refusal → ℕ
place_of Count = 0
place_of (Character place) = place
place_of CheckDigit = 0
place_of Guard = 0
place_of (Pattern place) = place
place_of CheckCharacter = 0
place_of FirstCharacter = 0
place_of Sequence = 0
place_of (Identifier place) = place
place_of (Data place) = place
place_of (Repeated place) = place
place_of Room = 0
place_of Absent = 0
place_of Condensed = 0

-- document 01, "Examples on each side": "the refusal and its place, one space apart"
abbrev pub printed : Refusal → List ℕ
printed refusal = decimal (number_of refusal) ++ (32 ∷ decimal (place_of refusal))
