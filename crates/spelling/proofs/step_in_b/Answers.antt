-- `spelling::step_in_b` meets its contract: the state tells the change, and a byte that is no separator is one of the 82, and so has a value
-- in set B.
use Prim.Native.Nat.{ℕ, ◌-◌, ◌≤◌}
use mathlib.Core.Path.{◌≡◌, refl, sym}
use mathlib.Core.Bool.{Bool, true, false, ◌||◌}
use native.Mathlib.Omega.{arith}
use lib.ListN.{get_or}
use lib.Dec.{eqb}
use borrow.Author.Tests.{eq-eqb, ne_eqb}
use Rattle.laws.proofs.FirstLaws.{all_pass}
use Rattle.character_set_82.specs.Characters.{is_of82, separator, is_message_byte}
use Rattle.spelling.specs.Best.{value_b}
use Rattle.spelling.proofs.BestSpelled.{range_of_82}
use Rattle.spelling.proofs.ForwardLaws.{to_c, in_b}
use Rattle.spelling.proofs.step_in_b.Goals as goal

least_other : (byte : ℕ) → is_message_byte byte ≡ true → (byte ≡ separator → ⊥) → 32 ≤ byte
unfolding is_message_byte
least_other byte is other =
    let in-82 : is_of82 byte ≡ true = or-not (is_of82 byte) (eqb byte separator) is (ne_eqb byte separator other) in
    omega (arith, range_of_82 byte in-82)
  where
    or-not : (a b : Bool) → (a || b) ≡ true → b ≡ false → a ≡ true
    or-not true b e f = refl
    or-not false b e f = absurd (let z : ◌≡◌ {A = ℕ} 0 1 = cc in omega arith)

pub returns-then-state-ge-IN_C : goal.returns-then-state-ge-IN_C
returns-then-state-ge-IN_C c =
    to_c c.args.message.now c.args.at c.requires.at_in_bounds c.args.state c.requires.state_value c.if-state-ge-IN_C.true

pub returns-then-byte-eq-SEPARATOR : goal.returns-then-byte-eq-SEPARATOR
returns-then-byte-eq-SEPARATOR c =
    let byte = get_or c.args.message.now c.args.at 0 in
    let is : 102 ≡ value_b byte = sym (rw (eq-eqb byte separator c.if-byte-eq-SEPARATOR.true)) in
    in_b c.args.message.now c.args.at c.requires.at_in_bounds c.args.state c.requires.state_value c.if-state-ge-IN_C.false 102 is

pub overflow_sub-result : goal.overflow_sub-result
overflow_sub-result c =
    let byte = get_or c.args.message.now c.args.at 0 in
    least_other byte (all_pass is_message_byte c.args.message.now c.requires.message_value c.args.at 0 c.requires.at_in_bounds) c.if-byte-eq-SEPARATOR.false

pub returns : goal.returns
returns c =
    let byte = get_or c.args.message.now c.args.at 0 in
    let is : byte - 32 ≡ value_b byte = sym (rw (ne_eqb byte separator c.if-byte-eq-SEPARATOR.false)) in
    in_b c.args.message.now c.args.at c.requires.at_in_bounds c.args.state c.requires.state_value c.if-state-ge-IN_C.false (byte - 32) is
