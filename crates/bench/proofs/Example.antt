-- Document 01's example of the bench program, computed by the rule: "Input lines `2012`, `10A`, `10` give exactly" these.
use mathlib.Core.Path.{◌≡◌, refl}
use mathlib.Core.List.{[], ◌∷◌, ◌++◌}
use Rattle.laws.specs.First.{first_not}
use Rattle.laws.specs.Among.{place_in}
use Rattle.character_set_82.specs.Characters.{eighty_two, is_of82, to_separator, is_message_byte}
use Rattle.identifiers.specs.Data.{is_date, is_number, passes, right_data}
use Rattle.identifiers.specs.Identifiers.{measures, table, kind_in, kind_of, spelled, first_of, identifiers_of, listed, identifier_in}
use Rattle.elements.specs.Strings.{data_of, next_after, element_of, string_at, strings_from, parsed, tested}
use Rattle.patterns.specs.Patterns.{same, drawn}
use Rattle.code128.specs.Characters.{patterns}
use Rattle.code128.specs.Check.{placed, check_of}
use Rattle.spelling.specs.Best.{comes_first, better, bests, best_spelling}
use Rattle.gs1_128.specs.Symbol.{symbol_of}
use Rattle.gs1_128.specs.Rules.{writes}
use Rattle.text.specs.Decimal.{decimal_in, decimal_of}
use Rattle.laws.specs.Text.{as_bytes}
use Rattle.bench.specs.Line.{answers}
use Rattle.serving.specs.Block.{answers_to}

pub example : answers_to answers (as_bytes "2012" ∷ as_bytes "10A" ∷ as_bytes "10" ∷ [])
    ≡ as_bytes "0 37 2112324111312212311122324131112331112\n"
    ++ as_bytes "0 43 2112144111311232211231221113231322122331112\n"
    ++ as_bytes "10 0\n"
unfolding answers_to answers decimal_of decimal_in writes tested parsed strings_from string_at element_of next_after data_of measures table kind_in kind_of spelled first_of identifiers_of listed identifier_in is_date is_number passes right_data to_separator is_message_byte is_of82 eighty_two place_in first_not best_spelling bests better comes_first symbol_of drawn check_of placed patterns same
example = refl
