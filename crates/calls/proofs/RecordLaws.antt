-- The records of a message: those that a call left at the front of twelve are those that its rule makes, and as text one more stands after the
-- ones before it.
use Rattle.std.specs.Prelude.{Result, Ok, Err}
use Prim.Native.Nat.{ℕ, ◌+◌, ◌≤◌, ◌<◌, min}
use mathlib.Core.Path.{◌≡◌, refl, sym, ap, ◌∙◌}
use mathlib.Core.List.{List, [], ◌∷◌, ◌++◌, append_assoc, append-nil}
use native.Mathlib.Numerals.{add-one}
use native.Mathlib.Omega.{arith}
use lib.ListN.{length, get_or, take, length-map}
use lib.Seq.{take-suc, take_all, length-take-le}
use Rattle.refusal.specs.declared.Refusal.{Refusal}
use Rattle.refusal.specs.Outcome.{made, refused}
use Rattle.refusal.specs.Fills.{Fills}
use Rattle.refusal.proofs.FillsLaws.{refused_of_answer}
use Rattle.refusal.proofs.OwnLaws.{own_of_fills, own_front}
use Rattle.splitting.specs.declared.Record.{Record}
use Rattle.splitting.specs.Splitting.{record_of, splits}
use Rattle.splitting.proofs.SplitLaws.{splits_made}
use Rattle.splitting.proofs.SplitStrings.{splits_in_twelve}
use Rattle.text.specs.Decimal.{apart, record_text}
use Rattle.calls.specs.Answers.{record_texts}

module _ (message : List ℕ) (places : ℕ) (before : List Record) (r : Result ℕ Refusal) (after : List Record) (h : Fills (splits message (min places 12)) before r after) where
  pub split_front : (n : ℕ) → r ≡ Ok n → (splits message places ≡ made (take n after)) × (n ≤ 12)
  split_front n is =
      let o = splits message (min places 12) in
      let front = own_front o before after r n is (own_of_fills o o before after r refl h) in
      let s = splits_made message (min places 12) (take n after) front.0 in
      let few : n ≤ 12 = omega (arith, s.enough, ap length s.same, length-map s.strings record_of, length-take-le n after front.1) in
      (sym (splits_in_twelve message places) ∙ front.0, few)

  pub split_refused : (f : Refusal) → r ≡ Err f → splits message places ≡ refused f
  split_refused f is = sym (splits_in_twelve message places) ∙ refused_of_answer (splits message (min places 12)) f (sym is ∙ h.answer)

abbrev text_of : Record → List ℕ
text_of r = record_text r.identifier r.begin r.length

texts_of_append : (xs : List Record) (r : Record) → record_texts (xs ++ (r ∷ [])) ≡ record_texts xs ++ text_of r
texts_of_append [] r = append-nil (text_of r)
texts_of_append (x ∷ xs) r = ap (λ (rest : List ℕ). text_of x ++ rest) (texts_of_append xs r) ∙ sym (append_assoc (text_of x) (record_texts xs) (text_of r))

-- after other text
pub texts_more : (front : List ℕ) (records : List Record) (i : ℕ) (d : Record) → i < length records → front ++ record_texts (take (i + 1) records) ≡ (front ++ record_texts (take i records)) ++ text_of (get_or records i d)
texts_more front records i d h =
    rw (add-one, take-suc records i d h, texts_of_append)
    (sym (append_assoc front (record_texts (take i records)) (text_of (get_or records i d))))

-- after their count, all of them
pub texts_all : (records : List Record) (i : ℕ) → length records ≤ i → apart 0 (length records) ++ record_texts records ≡ apart 0 (length records) ++ record_texts (take i records)
texts_all records i h = rw (take_all i records h)
