-- `gs1_128::drawing::characters_of` meets its contract: the best spelling stands at the front of the list, a start and FNC1 first, so its check
-- is that of the start and the rest of it, and goes to the place after it.
use Prim.Native.Nat.{ℕ, suc, ◌+◌, ◌-◌, ◌≤◌}
use mathlib.Core.Path.{◌≡◌, sym, ap, ◌∙◌}
use mathlib.Core.List.{List, ◌∷◌, ◌++◌}
use native.Mathlib.Omega.{arith}
use lib.ListN.{length, get_or, set, take, drop}
use Rattle.spelling.specs.Best.{best_spelling}
use Rattle.code128.specs.Check.{check_of}
use Rattle.code_sets.specs.Spelling.{Spelled}
use Rattle.code128.proofs.CheckLaws.{check_below}
use Rattle.spelling.proofs.BestLaws.{best_short}
use Rattle.spelling.proofs.BestSpelled.{best_is_spelled}
use Rattle.gs1_128.specs.Symbol.{checked}
use Rattle.gs1_128.proofs.WithCheckLaws.{first_is, values_are, length_checked, check_added}
use Rattle.gs1_128.proofs.drawing.characters_of.Goals.{After-spell-count}
use Rattle.gs1_128.proofs.drawing.characters_of.Goals as goal

spelled : (c : After-spell-count) → Spelled (best_spelling c.args.message.now) c.args.message.now
spelled c =
    let message = c.args.message.now in
    best_is_spelled message c.requires.message_value

is : (c : After-spell-count) → c.spell-count.new.values ≡ ((spelled c).start ∷ 102 ∷ (spelled c).values) ++ (drop c.spell-count.result c.args.characters.now)
is c =
    let count = c.spell-count.result in
    let behind = drop count c.args.characters.now in
    c.spell-count.ensures.values_after ∙ ap (λ (l : List ℕ). l ++ behind) (spelled c).is

counts : (c : After-spell-count) → c.spell-count.result ≡ suc (length (102 ∷ (spelled c).values))
counts c =
    c.spell-count.ensures.value ∙ ap length (spelled c).is

few : (c : After-spell-count) → c.spell-count.result ≤ 50
few c =
    let message = c.args.message.now in
    omega (arith, c.spell-count.ensures.value, best_short message, c.requires.message_len_bound)

long : (c : After-spell-count) → length c.spell-count.new.values ≡ 51
long c =
    omega (arith, c.spell-count.auto.values)

start_is : (c : After-spell-count) → get_or c.spell-count.new.values 0 0 ≡ (spelled c).start
start_is c =
    let list = c.spell-count.new.values in
    let count = c.spell-count.result in
    let behind = drop count c.args.characters.now in
    first_is list (spelled c).start (102 ∷ (spelled c).values) behind (is c) count (counts c)

rest-is : (c : After-spell-count) → take (c.spell-count.result - 1) (drop 1 c.spell-count.new.values) ≡ 102 ∷ (spelled c).values
rest-is c =
    let list = c.spell-count.new.values in
    let count = c.spell-count.result in
    let behind = drop count c.args.characters.now in
    values_are list (spelled c).start (102 ∷ (spelled c).values) behind (is c) count (counts c)

length-is : (c : After-spell-count) → length (checked (best_spelling c.args.message.now)) ≡ c.spell-count.result + 1
length-is c =
    let list = c.spell-count.new.values in
    let count = c.spell-count.result in
    let behind = drop count c.args.characters.now in
    ap (λ (l : List ℕ). length (checked l)) (spelled c).is ∙ length_checked list (spelled c).start (102 ∷ (spelled c).values) behind (is c) count (counts c)

added : (c : After-spell-count) → (check : ℕ) → check ≡ check_of (get_or c.spell-count.new.values 0 0) (take (c.spell-count.result - 1) (drop 1 c.spell-count.new.values)) → take (c.spell-count.result + 1) (set c.spell-count.new.values c.spell-count.result check) ≡ checked (best_spelling c.args.message.now)
added c check e =
    let list = c.spell-count.new.values in
    let count = c.spell-count.result in
    let behind = drop count c.args.characters.now in
    check_added list (spelled c).start (102 ∷ (spelled c).values) behind (is c) count (counts c) check e (omega (arith, (few c), (long c)))
    ∙ ap checked (sym (spelled c).is)

pub slice_bounds-check_of-count : goal.slice_bounds-check_of-count
slice_bounds-check_of-count c =
    omega (arith, counts (goal.at.slice_bounds-check_of-count c).After-spell-count)

pub slice_bounds-check_of-start : goal.slice_bounds-check_of-start
slice_bounds-check_of-start c =
    omega (arith, counts (goal.at.slice_bounds-check_of-start c).After-spell-count)

pub slice_bounds-check_of-end : goal.slice_bounds-check_of-end
slice_bounds-check_of-end c =
    let there = (goal.at.slice_bounds-check_of-end c).After-spell-count in
    omega (arith, few there, long there)

pub check_of-check-requires : goal.check_of-check-requires
check_of-check-requires c =
    let there = (goal.at.check_of-check-requires c).After-spell-count in
    record { start_bound = rw (c.from.ensures, start_is there) (omega (arith, (spelled there).most)); values_len_bound = rw (rest-is there) (omega (arith, counts there, few there)) }

pub overflow_cast-characters : goal.overflow_cast-characters
overflow_cast-characters c =
    let list = c.spell-count.new.values in
    let count = c.spell-count.result in
    omega (arith, c.check_of-check.ensures, check_below c.from.result (take (count - 1) (drop 1 list)))

pub bounds-characters-count : goal.bounds-characters-count
bounds-characters-count c =
    let there = (goal.at.bounds-characters-count c).After-spell-count in
    omega (arith, few there, long there)

pub overflow_add-result : goal.overflow_add-result
overflow_add-result c =
    omega (arith, few (goal.at.overflow_add-result c).After-spell-count)

pub returns : goal.returns
returns c =
    let there = (goal.at.returns c).After-spell-count in
    record { value = sym (length-is there); characters_after = added there c.check_of-check.result (rw c.from.ensures at c.check_of-check.ensures) }
