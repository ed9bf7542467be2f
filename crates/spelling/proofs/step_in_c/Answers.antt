-- `spelling::step_in_c` meets its contract: the state tells the change, and any other byte that set C is to spell is a separator or the first
-- of two digits.
use Prim.Native.Nat.{◌+◌, ◌≤◌, ◌<◌}
use native.Mathlib.Omega.{arith}
use lib.ListN.{length, get_or}
use Rattle.spelling.proofs.ForwardLaws.{to_b, in_c_parted, pair_within, pair_first, pair_second, in_c_paired}
use Rattle.spelling.proofs.step_in_c.Goals.{Else-byte-eq-SEPARATOR}
use Rattle.spelling.proofs.step_in_c.Goals as goal

pub returns-then-state-lt-STAYS : goal.returns-then-state-lt-STAYS
returns-then-state-lt-STAYS c =
    to_b c.args.message.now c.args.at c.requires.at_in_bounds c.args.state c.requires.state_value c.if-state-lt-STAYS.true

pub returns-then-byte-eq-SEPARATOR : goal.returns-then-byte-eq-SEPARATOR
returns-then-byte-eq-SEPARATOR c =
    in_c_parted c.args.message.now c.args.at c.requires.at_in_bounds c.args.state c.requires.state_value c.if-state-lt-STAYS.false c.if-byte-eq-SEPARATOR.true

first : (c : Else-byte-eq-SEPARATOR) → (48 ≤ get_or c.args.message.now c.args.at 0) × (get_or c.args.message.now c.args.at 0 ≤ 57)
first c =
    let at = c.args.at in
    let message = c.args.message.now in
    let stays = c.if-state-lt-STAYS.false in
    pair_first message at c.requires.at_in_bounds c.args.state c.requires.state_value stays c.if-byte-eq-SEPARATOR.false

second : (c : Else-byte-eq-SEPARATOR) → (48 ≤ get_or c.args.message.now (c.args.at + 1) 0) × (get_or c.args.message.now (c.args.at + 1) 0 ≤ 57)
second c =
    let at = c.args.at in
    let message = c.args.message.now in
    let stays = c.if-state-lt-STAYS.false in
    pair_second message at c.requires.at_in_bounds c.args.state c.requires.state_value stays c.if-byte-eq-SEPARATOR.false

within : (c : Else-byte-eq-SEPARATOR) → c.args.at + 1 < length c.args.message.now
within c =
    let at = c.args.at in
    let message = c.args.message.now in
    let stays = c.if-state-lt-STAYS.false in
    pair_within message at c.requires.at_in_bounds c.args.state c.requires.state_value stays c.if-byte-eq-SEPARATOR.false

pub returns : goal.returns
returns c =
    let message = c.args.message.now in
    let at = c.args.at in
    let stays = c.if-state-lt-STAYS.false in
    in_c_paired message at c.requires.at_in_bounds c.args.state c.requires.state_value stays c.if-byte-eq-SEPARATOR.false

pub overflow_sub-result : goal.overflow_sub-result
overflow_sub-result c =
    (first c).0

pub overflow_mul-result : goal.overflow_mul-result
overflow_mul-result c =
    omega (arith, first c)

pub bounds-message-at-2 : goal.bounds-message-at-2
bounds-message-at-2 c =
    within (goal.at.bounds-message-at-2 c).Else-byte-eq-SEPARATOR

pub overflow_sub-result-2 : goal.overflow_sub-result-2
overflow_sub-result-2 c =
    (second (goal.at.overflow_sub-result-2 c).Else-byte-eq-SEPARATOR).0

pub overflow_add-result-3 : goal.overflow_add-result-3
overflow_add-result-3 c =
    let there = (goal.at.overflow_add-result-3 c).Else-byte-eq-SEPARATOR in
    omega (arith, first there, second there)
