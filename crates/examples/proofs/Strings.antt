-- Document 01's P8 split into its strings, and a message of 44 bytes with ten, the most that a message can have: computed.
use Rattle.std.specs.Prelude.{Ok}
use mathlib.Core.Path.{◌≡◌, refl}
use mathlib.Core.Bool.{true, false}
use mathlib.Core.List.{[], ◌∷◌}
use Rattle.laws.specs.Among.{place_in}
use Rattle.laws.specs.First.{first_not}
use Rattle.laws.specs.Text.{as_bytes}
use Rattle.laws.specs.Weighed.{weighed}
use Rattle.refusal.specs.Outcome.{made}
use Rattle.refusal.specs.Fills.{answer_of}
use Rattle.digits.specs.Check.{weight_at, is_right}
use Rattle.patterns.specs.Patterns.{same}
use Rattle.text.specs.Typed.{message_of}
use Rattle.character_set_82.specs.Characters.{eighty_two, is_of82, to_separator, is_message_byte}
use Rattle.identifiers.specs.Identifiers.{measures, table, kind_in, kind_of, spelled, first_of, identifiers_of, listed, identifier_in}
use Rattle.identifiers.specs.Data.{is_date, is_number, passes, right_data}
use Rattle.elements.specs.Strings.{data_of, next_after, element_of, string_at, strings_from, parsed, tested}

pub strings_of_examples : (tested (message_of (as_bytes "011001234567890210ABC123")) ≡ made (record { identifier = 1; begin = 2; length = 14; next = 16; last = false } ∷ record { identifier = 10; begin = 18; length = 6; next = 25; last = true } ∷ []))
    × (answer_of (tested (message_of (as_bytes "301^371^10A^21A^90A^240A^241A^250A^400A^2012"))) ≡ Ok 10)
unfolding tested parsed strings_from string_at element_of next_after data_of right_data passes is_number is_date is_right weight_at weighed identifier_in first_of listed identifiers_of table measures kind_of kind_in spelled same is_message_byte is_of82 eighty_two to_separator place_in first_not
strings_of_examples = (refl, refl)
