-- `spelling::spell` meets its contract: the state of the whole message tells the better start; after it and FNC1 each value goes on with the
-- spelling that has come so far, and at the end of the message nothing of it is left.
use Rattle.std.proofs.Common.{◌≡◌, ℕ, ◌≤◌, Bool, cond, List, [], ◌∷◌, ◌++◌, length, take, drop, set, sym, ap, ap₂, ◌∙◌, arith, length-drop, length-set, take_all, drop-set-lt}
use Rattle.spelling.specs.Best.{best_spelling}
use Rattle.spelling.specs.States.{from, state_of, starts_in_c}
use Rattle.spelling.proofs.BestLaws.{best_short}
use Rattle.spelling.proofs.StateLaws.{state_within, starts}
use Rattle.spelling.proofs.ForwardLaws.{written_more, nothing_left}
use Rattle.spelling.proofs.spell.Goals.{After-start_of, After-loop-i}
use Rattle.spelling.proofs.spell.Goals as goal

-- the better start, as it is found
found : (message : List ℕ) (first start : ℕ) (c : Bool) → first ≡ state_of message → c ≡ starts_in_c first → start ≡ cond c 105 104 → best_spelling message ≡ start ∷ 102 ∷ from c message
found message first start c f e s =
    let is : c ≡ starts_in_c (state_of message) = e ∙ ap starts_in_c f in
    starts message ∙ ap (λ (t : Bool). cond t 105 104 ∷ 102 ∷ from t message) (sym is) ∙ ap (λ (v : ℕ). v ∷ 102 ∷ from c message) (sym s)

-- a start and FNC1 at the front of a list
module _ (start : ℕ) where
  abbrev begin : List ℕ → List ℕ
  begin before = set (set before 0 start) 1 102

  begin-front : (before best rest : List ℕ) → 2 ≤ length before → best ≡ start ∷ 102 ∷ rest → begin before ≡ take 2 best ++ drop 2 (begin before)
  begin-front [] best rest h is = absurd (omega arith)
  begin-front (a ∷ []) best rest h is = absurd (omega arith)
  begin-front (a ∷ b ∷ more) best rest h is = ap (λ (l : List ℕ). take 2 l ++ more) (sym is)

pub starts_in_c-c-requires : goal.starts_in_c-c-requires
starts_in_c-c-requires c =
    rw c.plan.ensures.value (state_within _)

is-best : (c : After-start_of) → (best_spelling c.args.message.now) ≡ c.start_of.result ∷ 102 ∷ from c.starts_in_c-c.result c.args.message.now
is-best c =
    let message = c.args.message.now in
    found message c.plan.result c.start_of.result c.starts_in_c-c.result c.plan.ensures.value c.starts_in_c-c.ensures c.start_of.ensures

pub loop-i-init : goal.loop-i-init
loop-i-init c =
    let message = c.args.message.now in
    let best = best_spelling message in (
      omega arith,
      record {
        room = simp length-set (omega (arith, best_short message, c.requires));
        few = omega (arith, ap length (is-best c));
        left = ap (drop 2) (is-best c);
        lent = begin-front c.start_of.result c.args.values.now best _ (omega (arith, c.requires)) (is-best c);
      },
    )

pub loop-i-preserved : goal.loop-i-preserved
loop-i-preserved c =
    let message = c.args.message.now in
    let best = best_spelling message in
    let begun = begin c.start_of.result c.args.values.now in
    let at = c.loop-i in (
      c.step_from-step.ensures.within,
      written_more best begun message at.c at.i at.n at.values at.invariant.1 c.step_from-step.result c.step_from-step.ensures,
    )

-- all of the spelling has come
all : (c : After-loop-i) → length (best_spelling c.args.message.now) ≤ c.loop-i.n
all c =
    let message = c.args.message.now in
    let best = best_spelling message in
    let at = c.loop-i in
    let none : drop at.n best ≡ [] = at.invariant.1.left ∙ nothing_left at.c message at.i (omega arith) in
    omega (arith, ap length none, length-drop at.n best)

pub returns-clause-value : goal.returns-clause-value
returns-clause-value c =
    omega (arith, all c, c.loop-i.invariant.1.few)

pub returns-clause-values_after : goal.returns-clause-values_after
returns-clause-values_after c =
    let n = c.loop-i.n in
    let two : 2 ≤ n = omega (arith, all c, ap length (is-best (goal.at.returns-clause-values_after c).After-start_of)) in
    c.loop-i.invariant.1.lent
    ∙ ap₂ (λ (front back : List ℕ). front ++ back) (take_all n (best_spelling c.args.message.now) (all c))
    (drop-set-lt n _ 1 102 two ∙ drop-set-lt n c.args.values.now 0 c.start_of.result (omega arith))
