-- The rules make of every example what its document says: computed.
use mathlib.Core.Path.{refl}
use Rattle.laws.specs.First.{first_not}
use Rattle.laws.specs.Weighed.{weighed}
use Rattle.digits.specs.Digit.{digits_of}
use Rattle.digits.specs.Check.{weight_at, is_right, right_number}
use Rattle.digits.specs.Numbered.{number_written, number_read}
use Rattle.patterns.specs.Patterns.{same, value_in, drawn, characters}
use Rattle.patterns.specs.Between.{between}
use Rattle.ean_upc.specs.Halves.{halves_drawn, guarded as guarded_halves, halves_in}
use Rattle.ean13.specs.Ean13.{writes as writes13, reads as reads13, symbol as symbol13, scanned as scanned13}
use Rattle.ean8.specs.Ean8.{writes as writes8, reads as reads8, symbol as symbol8, scanned as scanned8}
use Rattle.itf14.specs.Tables.{pairs}
use Rattle.itf14.specs.Itf14.{writes as writes14, reads as reads14, symbol as symbol14, scanned as scanned14}
use Rattle.laws.specs.Among.{place_in}
use Rattle.character_set_82.specs.Characters.{eighty_two, is_of82, to_separator, is_message_byte}
use Rattle.identifiers.specs.Identifiers.{measures, table, kind_in, kind_of as row_kind, spelled, first_of, identifiers_of, listed, identifier_in}
use Rattle.identifiers.specs.Data.{days_in, is_date, is_number, passes, right_data}
use Rattle.elements.specs.Strings.{data_of, next_after, element_of, string_at, strings_from, parsed, tested}
use Rattle.code_sets.specs.Sets.{meaning_in}
use Rattle.code_sets.specs.Reading.{step_in, spells, decoded}
use Rattle.code128.specs.Characters.{patterns}
use Rattle.code128.specs.Check.{placed, check_of}
use Rattle.spelling.specs.Best.{comes_first, better, bests, best_spelling}
use Rattle.gs1_128.specs.Symbol.{symbol_of}
use Rattle.gs1_128.specs.Scanning.{guarded, start_in, judged_values, scanned}
use Rattle.gs1_128.specs.Rules as Gs1
use Rattle.symbols.specs.Kinds.{kind_of, reads_as, writes_as}
use Rattle.symbols.specs.Readings.{reads}
use Rattle.examples.specs.Examples.{examples, existing_dates, ruled, Hold}

computed : Hold examples × Hold existing_dates
unfolding ruled examples existing_dates reads kind_of reads_as writes_as writes13 reads13 symbol13 scanned13 writes8 reads8 symbol8 scanned8 writes14 reads14 symbol14 scanned14 pairs number_written number_read right_number digits_of Gs1.writes Gs1.reads Gs1.message_in Gs1.message_from tested is_message_byte best_spelling bests better comes_first check_of placed symbol_of drawn patterns scanned start_in guarded judged_values characters value_in same first_not decoded spells step_in meaning_in parsed strings_from string_at element_of next_after data_of right_data passes is_number days_in is_date is_right weight_at weighed identifier_in first_of listed identifiers_of table measures row_kind kind_in spelled is_of82 eighty_two to_separator place_in halves_drawn guarded_halves halves_in between
computed = (refl, refl)

pub examples_hold : Hold examples
examples_hold = computed.0

pub existing_dates_hold : Hold existing_dates
existing_dates_hold = computed.1
