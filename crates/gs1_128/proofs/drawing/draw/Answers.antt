-- `gs1_128::drawing::draw` meets its promise: the room is tested before the first store, and then the characters and the stop fill as many
-- places as they have widths.
use Rattle.std.specs.Prelude.{Ok}
use Prim.Native.Nat.{ℕ, ◌+◌, ◌*◌}
use mathlib.Core.Path.{sym, ap, ◌∙◌}
use mathlib.Core.List.{◌++◌}
use native.Mathlib.Omega.{arith}
use lib.ListN.{length, drop, length-take}
use Rattle.laws.proofs.Parts.{next_part}
use Rattle.refusal.specs.declared.Refusal.TheVariants.{Room}
use Rattle.refusal.specs.Outcome.{made}
use Rattle.refusal.proofs.FillsLaws.{fills_refused, fills_same, laying_made, laying_refused}
use Rattle.patterns.specs.Patterns.{drawn}
use Rattle.code128.specs.Characters.{patterns, stop}
use Rattle.gs1_128.proofs.DrawnLaws.{length_drawn, length_stopped}
use Rattle.gs1_128.proofs.drawing.draw.Goals as goal

pub returns-then-widths-count : goal.returns-then-widths-count
returns-then-widths-count c =
    let characters = c.args.characters.now in
    let widths = c.args.widths.now in
    fills_refused _ Room _
    (laying_refused (drawn patterns characters ++ stop) (length widths) (omega (arith, length_stopped characters c.requires.below)))

pub draw_characters-requires : goal.draw_characters-requires
draw_characters-requires c =
    let pre = c.requires in
    record { characters_len_bound = pre.characters_len_bound; below = pre.below; to_len = simp length-take (omega arith) }

pub returns : goal.returns
returns c =
    let characters = c.args.characters.now in
    let widths = c.args.widths.now in
    let right = c.requires.below in
    let end = 6 * length characters in
    let symbol = drawn patterns characters ++ stop in
    let long = length_stopped characters right in
    let drawing = c.draw_characters in
    fills_same _ (made symbol) widths _ _ (laying_made symbol (length widths) (omega arith))
    (record {
      answer = ap Ok (sym long);
      lent =
          rw (drawing.ensures, c.copy_from_slice.ensures.after)
          (next_part widths (drawn patterns characters) stop end (end + 7) (length_drawn characters right) (omega arith)
          ∙ ap (λ (n : ℕ). symbol ++ drop n widths) (sym long));
    })
