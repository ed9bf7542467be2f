-- One line more of a block: the bytes up to its byte 10 hold none, and its answer is written after the others.
use Prim.Native.Nat.{ℕ, ◌+◌, ◌-◌, ◌≤◌, ◌<◌, min}
use mathlib.Core.Path.{◌≡◌, refl, sym, ap, ◌∙◌}
use mathlib.Core.Logic.{◌⊎◌, inl, inr}
use mathlib.Core.List.{List, [], ◌∷◌, ◌++◌, append_assoc, append-nil}
use native.Mathlib.Numerals.{add-one}
use native.Mathlib.Omega.{arith}
use lib.ListN.{length, get_or, take, drop, length-append, length-take, length-drop}
use lib.Seq.{length-take-le, take-suc, take-add, get_or-drop}
use borrow.Rule.Slice.PartMut.{mid_of, put_mid}
use borrow.Author.Tests.{not-false, eqb-true}
use Rattle.laws.specs.First.{first_not}
use Rattle.laws.proofs.FirstLaws.{first_fails, first_of_take, first_within}
use Rattle.lines.specs.Cut.{other_than}
use Rattle.text.specs.Puts.{Puts}
use Rattle.text.proofs.PutsLaws.{puts_none, puts_then, puts_within}
use Rattle.serving.specs.Block.{IsLine, AreLines, ended, answers_to, Answered, Cut}

ended_append : (lines more : List (List ℕ)) → ended (lines ++ more) ≡ ended lines ++ ended more
unfolding ended
ended_append [] more = refl
ended_append (line ∷ lines) more = rw (ended_append lines more) (sym (append_assoc line (10 ∷ ended lines) (ended more)))

are_append : (lines more : List (List ℕ)) → AreLines lines → AreLines more → AreLines (lines ++ more)
are_append [] more first second = second
are_append (line ∷ lines) more first second = (first.0, are_append lines more first.1 second)

answers_more : (answer : List ℕ → List ℕ) (lines : List (List ℕ)) (line : List ℕ) → answers_to answer (lines ++ (line ∷ [])) ≡ answers_to answer lines ++ answer line
unfolding answers_to
answers_more answer [] line = append-nil (answer line)
answers_more answer (first ∷ lines) line = rw (answers_more answer lines line) (sym (append_assoc (answer first) (answers_to answer lines) (answer line)))

pub answered_none : (answer : List ℕ → List ℕ) (block : List ℕ) (from : ℕ) (before : List ℕ) → Answered answer block from before from 0 before
unfolding ended answers_to
answered_none answer block from before =
    record { lines = []; are = tt; all = sym (append-nil (take from block)); puts = puts_none before }

module _ (answer : List ℕ → List ℕ) (block : List ℕ) (from : ℕ) (before : List ℕ) (next put : ℕ) (after : List ℕ) (end : ℕ)
    (ends : end ≡ next + first_not (other_than 10) (drop next block)) (within : end < length block) where
  line : List ℕ
  line = take (end - next) (drop next block)

  size : end - next ≡ first_not (other_than 10) (drop next block)
  size = omega arith

  is_line : IsLine line
  unfolding line
  is_line = rw (first_of_take, length-take) (omega (arith, size, first_within (other_than 10) (drop next block)))

  the_end : get_or block end 0 ≡ 10
  the_end =
      let short : first_not (other_than 10) (drop next block) < length (drop next block) = rw length-drop (omega arith) in
      let fails = first_fails (other_than 10) (drop next block) 0 short in
      eqb-true _ 10 (not-false _ (rw (get_or-drop, ← ends) at fails))

  cut_on : (lines : List (List ℕ)) → take next block ≡ take from block ++ ended lines → take (end + 1) block ≡ take from block ++ ended (lines ++ (line ∷ []))
  unfolding line ended
  cut_on lines e =
      let on : end ≡ next + (end - next) = omega arith in
      let upto : take end block ≡ (take from block ++ ended lines) ++ line = ap (λ (n : ℕ). take n block) on ∙ take-add next (end - next) block ∙ ap (λ (front : List ℕ). front ++ line) e in
      rw (add-one, take-suc block end 0 within, the_end, upto, ended_append lines (line ∷ [])) (simp append_assoc refl)

  pub answered_more : (s : ℕ) (rest : List ℕ) → Answered answer block from before next put after → Puts (answer (take (end - next) (drop next block))) (mid_of put (length after - put) after) s rest → Answered answer block from before (end + 1) (put + s) (put_mid put (length after - put) after rest)
  unfolding line
  answered_more s rest a p =
      record {
        lines = a.lines ++ (line ∷ []);
        are = are_append a.lines (line ∷ []) a.are (is_line, tt);
        all = cut_on a.lines a.all;
        puts = rw (answers_more answer a.lines line) (puts_then (answers_to answer a.lines) (answer line) before put after s rest a.puts p);
      }

-- a part that is written to what is left fits there
pub room_left : (bytes out : List ℕ) (put s : ℕ) (rest : List ℕ) → put ≤ length out → Puts bytes (mid_of put (length out - put) out) s rest → length rest ≡ length (mid_of put (length out - put) out) → put + s ≤ length out
room_left bytes out put s rest h p kept = omega (arith, puts_within bytes _ s rest p kept, length-take (length out - put) (drop put out), length-drop put out)

-- where something was put, the next line begins later
pub answered_moves : (answer : List ℕ → List ℕ) (block : List ℕ) (from : ℕ) (before : List ℕ) (next put : ℕ) (after : List ℕ) → Answered answer block from before next put after → from ≤ length block → next ≤ length block → from + min 1 put ≤ next
unfolding ended answers_to
answered_moves answer block from before next put after a hf hn = go a.lines a.all a.puts.count
  where
    go : (lines : List (List ℕ)) → take next block ≡ take from block ++ ended lines → put ≡ length (answers_to answer lines) → from + min 1 put ≤ next
    go [] e none = omega (arith, length-take-le next block hn, length-take-le from block hf, simp length-append at (ap length e))
    go (line ∷ lines) e count = omega (arith, length-take-le next block hn, length-take-le from block hf, simp length-append at (ap length e))

-- nothing was put only where no line ends any more
pub none_ends : {ended : Type 0} (longest room put : ℕ) → longest ≤ room → ended ⊎ (room < put + longest) → put ≡ 0 → ended
none_ends longest room put h (inl e) none = e
none_ends longest room put h (inr full) none = absurd (omega arith)

pub cut_more : (answer : List ℕ → List ℕ) (block : List ℕ) (from : ℕ) (before : List ℕ) (next put : ℕ) (after : List ℕ) → Cut block from → Answered answer block from before next put after → Cut block next
cut_more answer block from before next put after p a =
    record {
      lines = p.lines ++ a.lines;
      are = are_append p.lines a.lines p.are a.are;
      all = a.all ∙ ap (λ (front : List ℕ). front ++ ended a.lines) p.all ∙ sym (ended_append p.lines a.lines);
    }
