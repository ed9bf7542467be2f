-- `identifiers::contents::right_data` meets its contract: each `return` has the tests of the definition behind it; a kind's sizes are those of its content.
use Rattle.std.proofs.Common.{false, ◌≡◌, ◌<◌, ◌≤◌, length, sym, ◌∙◌, arith}
use mathlib.Core.Logic.{◌⊎◌, inl, inr}
use borrow.Author.Tests.{le-leb, lt-leb}
use Rattle.identifiers.specs.declared.Content.TheVariants.{DigitsWithCheck, Date, Digits, Text}
use Rattle.identifiers.specs.Data.{passes, right_data}
use Rattle.identifiers.proofs.DataLaws.{right_by_content, sized_number, sized_date}
use Rattle.identifiers.proofs.contents.right_data.Goals as goal

pub returns-then-bytes-kind : goal.returns-then-bytes-kind
unfolding right_data
returns-then-bytes-kind c = go c.then-bytes-kind.either
  where
    go : (length c.args.bytes.now < c.args.kind.least) ⊎ ((c.args.kind.least ≤ length c.args.bytes.now) × (c.args.kind.most < length c.args.bytes.now)) → false ≡ right_data c.args.kind c.args.bytes.now
    go (inl short) = rw (lt-leb _ _ short)
    go (inr long) = rw (le-leb _ _ long.0, lt-leb _ _ long.1)

pub is_number-requires : goal.is_number-requires
is_number-requires c =
    let kind = c.args.kind in
    let sizes = sized_number kind c.requires c.in-DigitsWithCheck.is in
    record { bytes_nonzero = omega arith; bytes_len_bound = omega arith }

pub is_date-requires : goal.is_date-requires
is_date-requires c =
    let kind = c.args.kind in
    let sizes = sized_date kind c.requires c.in-Date.is in
    omega arith

pub returns-in-DigitsWithCheck : goal.returns-in-DigitsWithCheck
unfolding passes
returns-in-DigitsWithCheck c =
    let kind = c.args.kind in
    let bytes = c.args.bytes.now in
    c.is_number.ensures ∙ sym (right_by_content kind bytes DigitsWithCheck (omega arith) (omega arith) c.in-DigitsWithCheck.is)

pub returns-in-Date : goal.returns-in-Date
unfolding passes
returns-in-Date c =
    let kind = c.args.kind in
    let bytes = c.args.bytes.now in
    c.is_date.ensures ∙ sym (right_by_content kind bytes Date (omega arith) (omega arith) c.in-Date.is)

pub returns-in-Digits : goal.returns-in-Digits
unfolding passes
returns-in-Digits c =
    let kind = c.args.kind in
    let bytes = c.args.bytes.now in
    c.is_digits.ensures ∙ sym (right_by_content kind bytes Digits (omega arith) (omega arith) c.in-Digits.is)

pub returns-in-Text : goal.returns-in-Text
unfolding passes
returns-in-Text c =
    let kind = c.args.kind in
    let bytes = c.args.bytes.now in
    c.is_text.ensures ∙ sym (right_by_content kind bytes Text (omega arith) (omega arith) c.in-Text.is)
