-- A legal spelling, as the relation says it, is what the readers' rule accepts, both ways, and so a spelling has one text: a value at a
-- time, each constructor of the relation is one step of the rule.
use Prim.Native.Nat.{ℕ, ◌+◌, ◌/◌, ◌%◌, ◌≤◌}
use mathlib.Core.Path.{◌≡◌, refl, sym, ◌∙◌, subst}
use mathlib.Core.Bool.{Bool, true, false, ◌&&◌}
use mathlib.Core.List.{List, [], ◌∷◌, ◌++◌}
use mathlib.Core.Logic.{◌↔◌}
use lib.ListN.{length}
use lib.Dec.{leb, ltb}
use borrow.Author.Tests.{lt-ltb, ltb-true, le-leb, leb-true}
use Rattle.laws.proofs.Booleans.{both_hold}
use Rattle.character_set_82.specs.Characters.{is_of82}
use Rattle.refusal.specs.declared.Refusal.TheVariants.{Sequence}
use Rattle.refusal.specs.Outcome.{made, ◌>>◌, must}
use Rattle.refusal.proofs.OutcomeLaws.{made_not_refused, made_same, must_made, bind_made}
use Rattle.code_sets.specs.Sets.{Set, Meaning, byte, pair, change, shift, separator, illegal, meaning_in, byte_in, other}
use Rattle.code_sets.specs.Spelling.{Spells, ended, a_byte, a_pair, a_shift, a_change, a_separator}
use Rattle.code_sets.specs.Reading.{Mode, in_set, shifted_from, emitted, meant, step_in, go_on, spells, start_set, decoded}

-- the rule follows the relation
pub rule_of_spelling : {set : Set} {values text : List ℕ} → Spells set values text → spells (in_set set) values ≡ made text
unfolding spells step_in
rule_of_spelling ended = refl
rule_of_spelling (a_byte means legal rest) = rw (means, legal, rule_of_spelling rest)
rule_of_spelling (a_pair means rest) = rw (means, rule_of_spelling rest)
rule_of_spelling (a_shift {shifted = shifted} means low legal rest) = rw (means, lt-ltb shifted 96 low, legal, rule_of_spelling rest)
rule_of_spelling (a_change means rest) = rw (means, rule_of_spelling rest)
rule_of_spelling (a_separator means rest) = rw (means, rule_of_spelling rest)

-- a step that went on, read backwards
went : (legal : Bool) (bytes : List ℕ) (next : Mode) (values text : List ℕ) → go_on (emitted legal bytes next) (λ mode. spells mode values) ≡ made text → (rest : List ℕ) × (legal ≡ true) × (spells next values ≡ made rest) × (bytes ++ rest ≡ text)
went true bytes next values text e =
    let b = bind_made (spells next values) (λ (rest : List ℕ). made (bytes ++ rest)) text e in
    (b.0, refl, b.1, made_same (bytes ++ b.0) text b.2)
went false bytes next values text e = absurd (made_not_refused text Sequence (sym e))

-- what a mode's values spell, as the relation has it: after a shift, that a shift before them is followed by them
abbrev From : Mode → List ℕ → List ℕ → Type 0
From (in_set set) values text = Spells set values text
From (shifted_from set) values text = (value : ℕ) → meaning_in set value ≡ shift → Spells set (value ∷ values) text

spelling_in : (mode : Mode) (values text : List ℕ) → spells mode values ≡ made text → From mode values text
unfolding spells step_in
spelling_in (in_set set) [] text e = subst (λ (t : List ℕ). Spells set [] t) (made_same [] text e) ended
spelling_in (shifted_from set) [] text e = absurd (made_not_refused text Sequence (sym e))
spelling_in (in_set set) (value ∷ values) text e = go (meaning_in set value) refl e (λ next. spelling_in next values)
  where
    go : (meaning : Meaning) → meaning_in set value ≡ meaning → go_on (meant set meaning) (λ next. spells next values) ≡ made text → ((next : Mode) (rest : List ℕ) → spells next values ≡ made rest → From next values rest) → Spells set (value ∷ values) text
    go (byte b) is e rest =
        let w = went (is_of82 b) (b ∷ []) (in_set set) values text e in
        subst (Spells set (value ∷ values)) w.3 (a_byte is w.1 (rest (in_set set) w.0 w.2))
    go (pair d) is e rest =
        let w = went true ((48 + d / 10) ∷ (48 + d % 10) ∷ []) (in_set set) values text e in
        subst (Spells set (value ∷ values)) w.3 (a_pair is (rest (in_set set) w.0 w.2))
    go (change next) is e rest =
        let w = went true [] (in_set next) values text e in
        subst (Spells set (value ∷ values)) w.3 (a_change is (rest (in_set next) w.0 w.2))
    go shift is e rest =
        let w = went true [] (shifted_from set) values text e in
        subst (Spells set (value ∷ values)) w.3 (rest (shifted_from set) w.0 w.2 value is)
    go separator is e rest =
        let w = went true (29 ∷ []) (in_set set) values text e in
        subst (Spells set (value ∷ values)) w.3 (a_separator is (rest (in_set set) w.0 w.2))
    go illegal is e rest = absurd (made_not_refused text Sequence (sym e))
spelling_in (shifted_from set) (shifted ∷ values) text e = λ value is.
    let b = byte_in (other set) shifted in
    let w = went (ltb shifted 96 && is_of82 b) (b ∷ []) (in_set set) values text e in
    let both = both_hold (ltb shifted 96) (is_of82 b) w.1 in
    subst (Spells set (value ∷ shifted ∷ values)) w.3 (a_shift is (ltb-true shifted 96 both.0) both.1 (spelling_in (in_set set) values w.0 w.2))

-- what is spelled is exactly what the rule reads
pub spelled_as_read : (set : Set) (values text : List ℕ) → Spells set values text ↔ (spells (in_set set) values ≡ made text)
spelled_as_read set values text = (rule_of_spelling, spelling_in (in_set set) values text)

pub one_text : (set : Set) (values text other : List ℕ) → Spells set values text → Spells set values other → text ≡ other
one_text set values text other s t = made_same text other (sym (rule_of_spelling s) ∙ rule_of_spelling t)

-- a message is read exactly where its 1 to 48 bytes are spelled
pub decoded_as_spelled : (start : ℕ) (values text : List ℕ) → (Spells (start_set start) values text × (1 ≤ length text) × (length text ≤ 48)) ↔ (decoded start values ≡ made text)
unfolding decoded
decoded_as_spelled start values text = (
  λ s. rw (rule_of_spelling s.0, le-leb 1 (length text) s.1, le-leb (length text) 48 s.2),
  back,
)
  where
    back : decoded start values ≡ made text → Spells (start_set start) values text × (1 ≤ length text) × (length text ≤ 48)
    back e =
        let b = bind_made (spells (in_set (start_set start)) values) (λ (t : List ℕ). must (leb 1 (length t) && leb (length t) 48) Sequence >> made t) text e in
        let m = must_made (leb 1 (length b.0) && leb (length b.0) 48) Sequence (made b.0) text b.2 in
        let both = both_hold (leb 1 (length b.0)) (leb (length b.0) 48) m.0 in
        subst (λ (t : List ℕ). Spells (start_set start) values t × (1 ≤ length t) × (length t ≤ 48)) (made_same b.0 text m.1)
        (spelling_in (in_set (start_set start)) values b.0 b.1, leb-true 1 (length b.0) both.0, leb-true (length b.0) 48 both.1)
