-- `digits::weighed_sum` meets its contract: going down, the sum so far is the weighed sum of the digits passed, each adds at most 27, and
-- the next weight is the one at their count.
use Rattle.std.proofs.Common.{◌≡◌, ℕ, List, [], ◌∷◌, map, ◌≤◌, ◌<◌, length, get_or, ◌++◌, ◌+◌, ◌*◌, refl, sym, ap, ◌∙◌, add_comm, append_assoc, append-nil, length-append, arith, rules}
use Rattle.std.proofs.lemmas.List.{length-map, nil_from_length}
use Rattle.std.proofs.Math.Seq.{get_or-append_seam}
use Rattle.laws.specs.First.{first_not}
use Rattle.laws.specs.Weighed.{weighed}
use Rattle.digits.specs.Digit.{is_digit, value_of}
use Rattle.digits.specs.Check.{weight_at}
use Rattle.digits.proofs.DigitLaws.{digit_at}
use Rattle.digits.proofs.Weights.{weight_of_even, weight_turns, weight_most, product_most}
use Rattle.digits.proofs.weighed_sum.Goals.{After-value_of}
use Rattle.digits.proofs.weighed_sum.Goals as goal

-- one digit more is passed
met : (digits rest front passed : List ℕ) (d : ℕ) → digits ≡ rest ++ passed → rest ≡ front ++ (d ∷ []) → first_not is_digit digits ≡ length digits → (digits ≡ front ++ (d ∷ passed)) × (48 ≤ d) × (d ≤ 57)
met digits rest front passed d e last all =
    let now : digits ≡ front ++ (d ∷ passed) = e ∙ ap (λ (xs : List ℕ). xs ++ passed) last ∙ append_assoc front (d ∷ []) passed in
    let there : get_or digits (length front) 0 ≡ d = ap (λ (xs : List ℕ). get_or xs (length front) 0) now ∙ get_or-append_seam front d passed 0 in
    let within : length front < length digits = omega (arith, ap length now, length-append front (d ∷ passed)) in
    let range = rw there at (digit_at digits all (length front) within) in
    (now, range.0, range.1)

passed_more : (passed : List ℕ) (d : ℕ) → weighed weight_at (map value_of passed) + weight_at (length passed) * value_of d ≡ weighed weight_at (map value_of (d ∷ passed))
unfolding weighed
passed_more passed d =
    let rest = weighed weight_at (map value_of passed) in
    let long = length-map passed value_of in
    add_comm rest _ ∙ ap (λ (k : ℕ). weight_at k * value_of d + rest) (sym long)

pub loop-digit-init : goal.loop-digit-init
unfolding weighed
loop-digit-init c = ([], rw append-nil (search rules), sym (weight_of_even 0 refl), refl, omega arith)

pub value_of-requires : goal.value_of-requires
value_of-requires c =
    let loop = c.loop-digit in
    (met _ _ _ loop.invariant.0 _ loop.invariant.1 c.in-Some.ensures.steps c.requires.digits_value).1

adds-most : (c : After-value_of) → c.loop-digit.weight * c.value_of.result ≤ 27
adds-most c =
    let loop = c.loop-digit in
    let digit = met _ _ _ loop.invariant.0 c.in-Some.digit.now loop.invariant.1 c.in-Some.ensures.steps c.requires.digits_value in
    rw loop.invariant.2 (product_most _ c.value_of.result (omega (arith, c.value_of.ensures, digit.2)))

pub overflow_mul-sum : goal.overflow_mul-sum
overflow_mul-sum c =
    omega (arith, adds-most c)

pub overflow_add-sum : goal.overflow_add-sum
overflow_add-sum c =
    let loop = c.loop-digit in
    omega (arith, adds-most c, c.requires.digits_len_bound, ap length loop.invariant.1, length-append loop.digit-iterator.iter.rest.now loop.invariant.0)

pub overflow_sub-weight : goal.overflow_sub-weight
overflow_sub-weight c =
    omega (arith, weight_most (length c.loop-digit.invariant.0))

pub loop-digit-preserved : goal.loop-digit-preserved
loop-digit-preserved c =
    let loop = c.loop-digit in
    let passed = loop.invariant.0 in
    let digit = met _ _ _ passed c.in-Some.digit.now loop.invariant.1 c.in-Some.ensures.steps c.requires.digits_value in (
      c.in-Some.digit.now ∷ passed,
      digit.0,
      rw (loop.invariant.2, weight_turns) refl,
      rw (loop.invariant.2, loop.invariant.3, c.value_of.ensures) (passed_more passed c.in-Some.digit.now),
      omega (arith, adds-most c),
    )

pub returns : goal.returns
returns c =
    let loop = c.loop-digit in
    let whole : c.args.digits.now ≡ loop.invariant.0 = loop.invariant.1 ∙ ap (λ (xs : List ℕ). xs ++ loop.invariant.0) (nil_from_length _ c.in-None.ensures.steps.0) in
    record { value = rw whole loop.invariant.3; upper_bound = omega (arith, c.requires.digits_len_bound, ap length whole) }
