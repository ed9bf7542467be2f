-- `lines::place_of` meets its contract: the search finds the first such byte of what is left from `from` on.
use Rattle.std.proofs.Common.{◌≡◌, ℕ, ◌+◌, ◌-◌, length, take, drop, length-drop, ap, ◌∙◌, rules, arith}
use Rattle.std.proofs.Math.Seq.{take_all}
use Rattle.laws.specs.First.{first_not}
use Rattle.laws.proofs.FirstLaws.{first_met, first_within}
use Rattle.lines.specs.Cut.{other_than}
use Rattle.lines.proofs.place_of.Goals as goal

pub returns : goal.returns
returns c =
    let bytes = c.args.bytes.now in
    let from = c.args.from in
    let passes = other_than c.args.byte in
    let left = drop from bytes in
    let rest = take (length bytes - from) left in
    let whole : rest ≡ left = take_all (length bytes - from) left (omega (arith, length-drop from bytes)) in
    let found : c.unwrap_or.result ≡ first_not passes left =
    c.unwrap_or.ensures ∙ first_met passes rest 0 c.position.result (search rules) ∙ ap (first_not passes) whole in
    record { value = ap (λ (n : ℕ). from + n) found; upper_bound = omega (arith, first_within passes left, length-drop from bytes) }
