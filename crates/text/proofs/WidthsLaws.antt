-- The widths that a text says, met by a loop that takes them from the left: those taken and what is left say the whole, and where
-- nothing is left, those taken are all.
use Rattle.std.proofs.Common.{◌≡◌, ℕ, ◌+◌, ◌<◌, ◌≤◌, Bool, true, false, cond, eqb, List, [], ◌∷◌, ◌++◌, map, length, get_or, set, take, Some, None, MatchBool, refl, sym, ap, append_assoc, length-append, length-take-le, take-suc, take-suc-set, add-one, eq-eqb, ne_eqb, arith, not, subst}
use Rattle.std.specs.List.{IsFirstMatchOrLen}
use lib.ListN.{length-map, get_or-map, get_or-append}
use lib.Seq.{take-append_seam, drop-append-add, get_or-append_seam}
use Rattle.laws.specs.First.{first_not}
use Rattle.laws.proofs.FirstLaws.{pass_all, first_at_seam}
use Rattle.digits.specs.Digit.{is_digit, value_of}
use Rattle.lines.specs.Cut.{other_than, cut_at}
use Rattle.lines.proofs.CutLaws.{cut_last, cut_first}
use Rattle.text.specs.Numeral.{number_in}
use Rattle.text.specs.Widths.{Said, widths, nothing, before, numbers_of, numbers_in, digits_in, Takes}

-- what is answered where a text says no widths, and where those that it says stand at the front
pub takes_none : (said : Said) (after : List ℕ) → said ≡ nothing → Takes said None after
takes_none said after e =
    record { count = rw e; front = λ list is. absurd (let z : ◌≡◌ {A = ℕ} 0 1 = cc in omega arith) }

pub takes_front : (said : Said) (n : ℕ) (after : List ℕ) → n ≤ length after → said ≡ widths (take n after) → Takes said (Some n) after
takes_front said n after h e =
    let long = length-take-le n after h in
    record {
      count = rw (e, long);
      front = λ list is.
          let same : list ≡ take n after = cc in
          rw (same, long);
    }

-- digits: one more of them stored, and what they say
pub values_more : (typed after : List ℕ) (i : ℕ) → i < length typed → i < length after → take i after ≡ take i (map value_of typed) → take (i + 1) (set after i (value_of (get_or typed i 0))) ≡ take (i + 1) (map value_of typed)
values_more typed after i ht ha e =
    rw (add-one, take-suc-set after i (value_of (get_or typed i 0)) ha, e, ← get_or-map value_of typed i 0)
    (sym (take-suc (map value_of typed) i (value_of 0) (rw length-map ht)))

pub digits_none : (typed : List ℕ) → first_not is_digit typed < length typed → digits_in typed ≡ nothing
unfolding digits_in
digits_none typed h = rw (ne_eqb (first_not is_digit typed) (length typed) (omega arith))

pub digits_all : (typed : List ℕ) → first_not is_digit typed ≡ length typed → digits_in typed ≡ widths (map value_of typed)
unfolding digits_in
digits_all typed e = rw (eq-eqb (first_not is_digit typed) (length typed) e)

-- widths that are taken, before what the rest says
abbrev pub prepend : List ℕ → Said → Said
prepend list (widths more) = widths (list ++ more)
prepend list nothing = nothing

prepend_more : (list : List ℕ) (width : ℕ) (said : Said) → prepend list (before (Some width) said) ≡ prepend (list ++ (width ∷ [])) said
prepend_more list width (widths more) = ap widths (sym (append_assoc list (width ∷ []) more))
prepend_more list width nothing = refl

-- what the words say that a cut of the text at spaces has not given yet, and how many there can be: where it is done, none is left
abbrev pub left : Bool → List ℕ → Said
left done rest = cond done (widths []) (numbers_in rest)

abbrev pub words_left : Bool → List ℕ → ℕ
words_left done rest = cond done 0 (length rest + 1)

abbrev pub is_space : ℕ → Bool
is_space byte = eqb byte 32

-- the word that the cut gives, and what is left after it
module _ (word after : List ℕ) where
  cut_word : (rest : List ℕ) (done : Bool) → MatchBool done (rest ≡ word) ((y : ℕ) × (rest ≡ word ++ (y ∷ after))) → IsFirstMatchOrLen is_space rest (length word) → cut_at 32 rest ≡ word ∷ cond done [] (cut_at 32 after)
  cut_word rest true is first =
      let letters : first_not (other_than 32) word ≡ length word = pass_all (other_than 32) word 0 (λ i h. ap not (subst (λ (bytes : List ℕ). is_space (get_or bytes i 0) ≡ false) is (first.0 i 0 (omega arith) h))) in
      rw is (cut_last 32 word letters)
  cut_word rest false (byte, is) first =
      let letters : first_not (other_than 32) word ≡ length word = pass_all (other_than 32) word 0 (λ i h. ap not (rw (is, get_or-append word (byte ∷ after) 0 i h) at (first.0 i 0 (omega arith) h))) in
      let within : length word < length rest = rw (is, length-append) (omega arith) in
      let space : is_space byte ≡ true = rw (is, get_or-append_seam) at (first.1 within 0) in
      let place = first_at_seam (other_than 32) word byte after letters (ap not space) in
      let cut = cut_first 32 (word ++ byte ∷ after) (omega (arith, place, length-append word (byte ∷ after))) in
      rw is (rw (place, take-append_seam, ← add-one (length word), drop-append-add word (byte ∷ after) 1) at cut)

  module _ (rest : List ℕ) (began done : Bool) (more : began ≡ false) (is : MatchBool done (rest ≡ word) ((y : ℕ) × (rest ≡ word ++ (y ∷ after)))) (first : IsFirstMatchOrLen is_space rest (length word)) where
    left_word : left began rest ≡ before (number_in word 255) (left done after)
    unfolding numbers_in numbers_of
    left_word = rw (more, cut_word rest done is first) (go done)
      where
        go : (b : Bool) → before (number_in word 255) (numbers_of (cond b [] (cut_at 32 after))) ≡ before (number_in word 255) (cond b (widths []) (numbers_of (cut_at 32 after)))
        go true = refl
        go false = refl

    -- after the widths of a list, where the word is read or is not
    pub left_more : (list : List ℕ) (width : ℕ) → Some width ≡ number_in word 255 → prepend list (left began rest) ≡ prepend (list ++ (width ∷ [])) (left done after)
    left_more list width is = rw (left_word, ← is) (prepend_more list width (left done after))

    pub left_unread : (list : List ℕ) → None ≡ number_in word 255 → prepend list (left began rest) ≡ nothing
    left_unread list is = rw (left_word, ← is)

    pub fewer_left : words_left done after < words_left began rest
    fewer_left = rw more (go done is)
      where
        go : (b : Bool) → MatchBool b (rest ≡ word) ((y : ℕ) × (rest ≡ word ++ (y ∷ after))) → words_left b after < length rest + 1
        go true same = omega arith
        go false (byte, same) = rw (same, length-append) (omega arith)
