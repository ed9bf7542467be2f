-- `adding::composing::compose` meets its contract: each part is put where the one before it ends, and the rest of the buffer stays.
use Rattle.std.specs.Prelude.{Ok}
use Prim.Native.Nat.{ℕ, ◌+◌}
use mathlib.Core.Path.{◌≡◌, ap, ap₂, ◌∙◌}
use mathlib.Core.List.{List, [], ◌∷◌, ◌++◌}
use native.Mathlib.Omega.{arith}
use lib.ListN.{length, take, drop, length-append}
use lib.Seq.{length-take-le}
use Rattle.refusal.proofs.FillsLaws.{laying_made}
use Rattle.character_set_82.specs.Characters.{separator}
use Rattle.identifiers.specs.Identifiers.{spelled}
use Rattle.adding.proofs.AddLaws.{length_of_four, put_next}
use Rattle.adding.proofs.composing.compose.Goals as goal

pub returns : goal.returns
returns c =
    let buffer = c.args.buffer.now in
    let count = c.args.count in
    let closing = c.args.closing in
    let x = c.args.identifier in
    let content = c.args.content.now in
    let size = c.digits_of-size.result in
    let front = take count buffer in
    let closer = take closing (separator ∷ []) in
    let digits = take size c.spelling-digits.result in
    let done = front ++ closer ++ digits in
    let message = front ++ closer ++ spelled x ++ content in
    let front-long = length-take-le count buffer c.requires.count_in_bounds in
    let closer-long = length-take-le closing (separator ∷ []) c.requires.closing_bound in
    let message-long : length message ≡ count + closing + size + length content = omega (arith, length_of_four front closer (spelled x) content, front-long, closer-long, c.digits_of-size.ensures) in
    let closed-long : length (front ++ closer) ≡ c.put-at.result = omega (arith, length-append front closer, front-long, c.put-at.ensures.value) in
    let done-long : length done ≡ c.put-at-2.result = omega (arith, length-append (front ++ closer) digits, closed-long, c.put-at-2.ensures.value) in
    let held = c.put-at-2.ensures.to_after ∙ put_next buffer (front ++ closer) digits _ c.put-at.result c.put-at-2.result c.put-at.ensures.to_after closed-long c.put-at-2.ensures.value in
    let digits-are : digits ≡ spelled x = ap (λ (n : ℕ). take n c.spelling-digits.result) c.digits_of-size.ensures ∙ c.spelling-digits.ensures in
    let whole : done ++ content ≡ message = ap (λ (bytes : List ℕ). front ++ closer ++ bytes ++ content) digits-are in
    let end : c.put.result ≡ length message = c.put.ensures.value ∙ omega (arith, done-long, ap length whole, length-append done content) in
    let stays = c.put.ensures.to_after ∙ put_next buffer done content _ c.put-at-2.result c.put.result held done-long c.put.ensures.value in
    rw (laying_made message (length buffer) (omega (arith, message-long, c.if-buffer-end.false)))
    (record { answer = ap Ok end; lent = stays ∙ ap₂ (λ (bytes : List ℕ) (n : ℕ). bytes ++ drop n buffer) whole end })
