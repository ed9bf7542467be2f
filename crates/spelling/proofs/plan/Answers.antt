-- `spelling::plan` meets its contract: before the turn at i every place from i on has its state.
use Rattle.std.proofs.Common.{◌≡◌, ℕ, ◌+◌, ◌-◌, ◌<◌, ◌≤◌, List, length, get_or, set, drop, ⊎_elim, sym, ap, ◌∙◌, arith, get_or-set_same, get_or-set_other}
use Rattle.std.proofs.lemmas.Bool.{cases_eq}
use lib.Seq.{drop-length}
use Rattle.spelling.specs.States.{state_at, state_of}
use Rattle.spelling.proofs.StateLaws.{state_of_nil, state_more, state_within}
use Rattle.spelling.proofs.plan.Goals as goal

-- one state more, before the others
states-more : (message states : List ℕ) (i state : ℕ) → i < length states → state ≡ state_of (drop i message) → ((k : ℕ) → i < k → k < length message → get_or states k 0 ≡ state_of (drop k message)) → (k : ℕ) → i ≤ k → k < length message → get_or (set states i state) k 0 ≡ state_of (drop k message)
states-more message states i state within here further k h l =
    ⊎_elim
    (λ same. rw same (get_or-set_same states i state 0 within ∙ here))
    (λ other. get_or-set_other states i k state 0 other ∙ further k (omega (arith, other)) l)
    (cases_eq k i)

pub loop-i-init : goal.loop-i-init
loop-i-init c =
    (rw drop-length (sym state_of_nil), λ k h l. absurd (omega arith))

pub state_at-state-requires : goal.state_at-state-requires
state_at-state-requires c =
    rw c.loop-i.invariant.0 (state_within _)

pub loop-i-preserved : goal.loop-i-preserved
loop-i-preserved c =
    let message = c.args.message.now in
    let i = c.loop-i.i - 1 in
    let next : i + 1 ≡ c.loop-i.i = omega arith in
    let more = rw next at (state_more message i (omega arith)) in
    let here = c.state_at-state.ensures ∙ ap (state_at (get_or message i 0)) c.loop-i.invariant.0 ∙ sym more in (
      here,
      states-more message c.loop-i.states i c.state_at-state.result (omega arith) here (λ k h. c.loop-i.invariant.1 k (omega arith)),
    )
