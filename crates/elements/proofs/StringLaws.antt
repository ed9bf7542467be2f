-- One element string where one must begin: what the rule's lines leave, read forwards for the call that follows them and backwards for
-- what is known of a string that was found.
use Rattle.std.specs.Prelude.{Some, None, Option, min}
use Prim.Native.Nat.{ℕ, zero, suc, ◌+◌, ◌-◌, ◌≤◌, ◌<◌}
use mathlib.Core.Path.{◌≡◌, refl, sym, ap, ◌∙◌, subst}
use mathlib.Core.Bool.{Bool, true, false, cond, not, ◌&&◌}
use mathlib.Core.List.{List, [], ◌∷◌}
use native.Mathlib.Nat.{le_of_lt}
use native.Mathlib.Omega.{arith}
use lib.ListN.{length, take, drop, length-append, length-take, length-drop, drop_of_length-le}
use lib.Seq.{take_all}
use lib.Dec.{eqb, leb}
use borrow.Author.Tests.{leb-true, eqb-false}
use Rattle.laws.proofs.Booleans.{both_hold}
use Rattle.laws.proofs.FirstLaws.{first_within}
use Rattle.refusal.specs.declared.Refusal.{Refusal}
use Rattle.refusal.specs.declared.Refusal.TheVariants.{Identifier, Data}
use Rattle.refusal.specs.Outcome.{made, refused}
use Rattle.refusal.proofs.OutcomeLaws.{must_made, bind_made, made_same}
use Rattle.elements.specs.declared.Element.{Element}
use Rattle.identifiers.specs.declared.Kind.{Kind}
use Rattle.character_set_82.specs.Characters.{separator, to_separator}
use Rattle.patterns.specs.Patterns.{same}
use Rattle.identifiers.specs.Identifiers.{measures, table, kind_of, spelled, first_of, identifiers_of, listed, identifier_in}
use Rattle.identifiers.specs.Rows.{row_in, row_at}
use Rattle.identifiers.specs.Data.{passes, right_data}
use Rattle.elements.specs.Strings.{given, data_of, next_after, element_of, string_at}
use Rattle.identifiers.proofs.ListedLaws.{all_rows, kind_passes, listed_found}
use Rattle.identifiers.proofs.DecisionLaws.{begun}
use Rattle.identifiers.proofs.RowLaws.{kind_of_row, no_kind_of_row}

cut_again : (n : ℕ) (xs : List ℕ) → take (length (take n xs)) xs ≡ take n xs
cut_again zero xs = refl
cut_again (suc n) [] = refl
cut_again (suc n) (x ∷ xs) = ap (λ (more : List ℕ). x ∷ more) (cut_again n xs)

-- the data at the front of some bytes
module _ (kind : Kind) (bytes : List ℕ) where
  pub data_within : length (data_of kind bytes) ≤ length bytes
  unfolding data_of
  data_within = omega (arith, length-take (cond kind.predefined kind.most (to_separator bytes)) bytes)

  pub data_part : take (length (data_of kind bytes)) bytes ≡ data_of kind bytes
  unfolding data_of
  data_part = cut_again (cond kind.predefined kind.most (to_separator bytes)) bytes

  pub data_to_separator : kind.predefined ≡ false → length (data_of kind bytes) ≡ to_separator bytes
  unfolding data_of to_separator
  data_to_separator e = rw e (let within = first_within (λ (b : ℕ). not (eqb b separator)) bytes in length-take (to_separator bytes) bytes ∙ omega arith)

  pub data_of_predefined : kind.predefined ≡ true → length (data_of kind bytes) ≡ min kind.most (length bytes)
  unfolding data_of
  data_of_predefined e = rw e (length-take kind.most bytes)

-- past the end of the message no identifier begins
no_identifier : identifier_in [] ≡ None
unfolding identifier_in first_of listed identifiers_of table measures spelled same
no_identifier = refl

pub string_past_end : (message : List ℕ) (at : ℕ) → length message < at → string_at message at ≡ refused (Identifier at)
unfolding string_at
string_past_end message at h = rw (drop_of_length-le message (le_of_lt h), no_identifier)

pub row_listed : (bytes : List ℕ) (x : ℕ) (kind : Kind) → row_at bytes ≡ Some (x, kind) → (identifier_in bytes ≡ Some x) × (kind_of x ≡ Some kind)
unfolding row_at
row_listed bytes x kind e = go (identifier_in bytes) e
  where
    go : (o : Option ℕ) → row_in o ≡ Some (x, kind) → (o ≡ Some x) × (kind_of x ≡ Some kind)
    go None e = absurd (let z : ◌≡◌ {A = ℕ} 0 1 = cc in omega arith)
    go (Some y) e =
        let known = kind_of_row y x kind e in
        (ap Some known.0, rw known.0 at known.1)

module _ (message : List ℕ) (at : ℕ) where
  pub rest_of : take (length message - at) (drop at message) ≡ drop at message
  rest_of = take_all (length message - at) (drop at message) (rw length-drop (omega arith))

  pub string_unlisted : row_at (drop at message) ≡ None → string_at message at ≡ refused (Identifier at)
  unfolding string_at row_at
  string_unlisted e = go (identifier_in (drop at message)) refl e
    where
      go : (o : Option ℕ) → identifier_in (drop at message) ≡ o → row_in o ≡ None → string_at message at ≡ refused (Identifier at)
      go None p e = rw p
      go (Some x) p e = rw (p, no_kind_of_row x e)

  module _ (x : ℕ) (kind : Kind) (here : identifier_in (drop at message) ≡ Some x) (is : kind_of x ≡ Some kind) where
    pub begin_within : at ≤ length message → at + length (spelled x) ≤ length message
    begin_within h =
        omega (arith, ap length (listed_found (drop at message) x here).1, length-append (spelled x) (drop (length (spelled x)) (drop at message)), length-drop at message)

    pub string_wrong : (b : ℕ) → b ≡ at + length (spelled x) → right_data kind (data_of kind (drop b message)) ≡ false → string_at message at ≡ refused (Data at)
    unfolding string_at
    string_wrong b e wrong = let w = rw e at wrong in rw (here, is, w)

    pub string_right : (b : ℕ) → b ≡ at + length (spelled x) → right_data kind (data_of kind (drop b message)) ≡ true → string_at message at ≡ made (element_of message x kind b)
    unfolding string_at
    string_right b e right = rw (e, here, is, rw e at right)

-- the string that a call makes of its places
pub element_is : (message : List ℕ) (x : ℕ) (kind : Kind) (b n next : ℕ) → n ≡ length (data_of kind (drop b message)) → next ≡ next_after kind (b + n) → ◌≡◌ {A = Element} (record { identifier = x; begin = b; length = n; next = next; last = eqb (b + n) (length message) }) (element_of message x kind b)
unfolding element_of
element_is message x kind b n next e is = rw (is, e)

-- what is known of a string that was found
pub record FoundAt (message : List ℕ) (at : ℕ) (string : Element) : Type 0 where
  pub kind : Kind
  pub here : identifier_in (drop at message) ≡ Some string.identifier
  pub listed : kind_of string.identifier ≡ Some kind
  pub right : right_data kind (data_of kind (drop (at + length (spelled string.identifier)) message)) ≡ true
  pub made_of : string ≡ element_of message string.identifier kind (at + length (spelled string.identifier))

pub given_made : {A : Type 0} (o : Option A) (f : Refusal) (a : A) → given o f ≡ made a → o ≡ Some a
given_made None f a e = absurd (let z : ◌≡◌ {A = ℕ} 0 1 = cc in omega arith)
given_made (Some b) f a e = cc

pub string_found : (message : List ℕ) (at : ℕ) (string : Element) → string_at message at ≡ made string → FoundAt message at string
unfolding string_at element_of
string_found message at string e =
    let a = bind_made (given (identifier_in (drop at message)) (Identifier at)) _ string e in
    let b = bind_made (given (kind_of a.0) (Identifier at)) _ string a.2 in
    let x = a.0 in
    let kind = b.0 in
    let c = must_made (right_data kind (data_of kind (drop (at + length (spelled x)) message))) (Data at) (made (element_of message x kind (at + length (spelled x)))) string b.2 in
    let is : element_of message x kind (at + length (spelled x)) ≡ string = made_same _ _ c.1 in
    subst (λ (s : Element). FoundAt message at s) is
    (record {
      kind = kind;
      here = given_made _ _ x a.1;
      listed = given_made _ _ kind b.1;
      right = c.0;
      made_of = refl;
    })

-- a string that another one follows has four bytes or more, and the next one begins within the message
four_bytes : Kind → Bool
four_bytes kind = leb 2 (next_after kind kind.least)

all_four : all_rows four_bytes table ≡ true
unfolding four_bytes next_after table
all_four = refl

pub data_least : (kind : Kind) (bytes : List ℕ) → right_data kind bytes ≡ true → kind.least ≤ length bytes
unfolding right_data
data_least kind bytes e =
    let sizes = both_hold (leb kind.least (length bytes) && leb (length bytes) kind.most) (passes kind.content bytes) e in
    leb-true _ _ (both_hold (leb kind.least (length bytes)) (leb (length bytes) kind.most) sizes.0).0

next_bounds : (kind : Kind) (b n size : ℕ) → b + n ≤ size → (b + n ≡ size → ⊥) → kind.least ≤ n → 2 ≤ next_after kind kind.least → (next_after kind (b + n) ≤ size) × (b + 2 ≤ next_after kind (b + n))
unfolding next_after
next_bounds kind b n size within ends least two = go kind.predefined refl
  where
    go : (p : Bool) → kind.predefined ≡ p → (next_after kind (b + n) ≤ size) × (b + 2 ≤ next_after kind (b + n))
    go true e = let t = rw e at two in rw e (omega arith, omega arith)
    go false e = let t = rw e at two in rw e (omega arith, omega arith)

pub next_within : (message : List ℕ) (at : ℕ) (string : Element) → at ≤ length message → string_at message at ≡ made string → string.last ≡ false → (string.next ≤ length message) × (at + 4 ≤ string.next)
unfolding element_of four_bytes kind_of
next_within message at string within e goes =
    let f = string_found message at string e in
    let x = string.identifier in
    let b = at + length (spelled x) in
    let n = length (data_of f.kind (drop b message)) in
    let inside : b ≤ length message = begin_within message at x f.kind f.here f.listed within in
    let short : n ≤ length message - b = subst (λ (m : ℕ). n ≤ m) (length-drop b message) (data_within f.kind (drop b message)) in
    let least = data_least f.kind (data_of f.kind (drop b message)) f.right in
    let two = (begun (drop at message) x f.here).spelling.two in
    let four = leb-true 2 (next_after f.kind f.kind.least) (kind_passes four_bytes table all_four x f.kind f.listed) in
    let ends : b + n ≡ length message → ⊥ = eqb-false (b + n) (length message) (sym (ap (λ (s : Element). s.last) f.made_of) ∙ goes) in
    let bounds = next_bounds f.kind b n (length message) (omega arith) ends least four in
    subst (λ (next : ℕ). (next ≤ length message) × (at + 4 ≤ next)) (sym (ap (λ (s : Element). s.next) f.made_of)) (bounds.0, omega arith)
