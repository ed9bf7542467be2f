use Rattle.std.proofs.Common.{◌≡◌, ◌+◌, ◌≤◌, length, take}
use Rattle.text.specs.Widths.{numbers_in}
use Rattle.text.proofs.WidthsLaws.{prepend, left, words_left}
use Rattle.text.proofs.widths.numbers_in.Given as goal

abbrev pub invariant-loop-word : goal.invariant-loop-word
invariant-loop-word l =
    let cut = l.word-iterator in
    (l.count + words_left cut.done cut.rest.now ≤ length l.typed + 1) × (length l.widths ≡ length l.initial.widths) × (numbers_in l.typed ≡ prepend (take l.count l.widths) (left cut.done cut.rest.now))
