-- `calls::call` meets its contract: each word has its own function, which answers as its line of the rule says.
use Prim.Native.Nat.{ℕ}
use mathlib.Core.Path.{◌≡◌, sym, ap, ◌∙◌}
use mathlib.Core.List.{List}
use Rattle.text.proofs.PutsLaws.{puts_same}
use Rattle.answers.specs.Lines.{answer_line}
use Rattle.requests.specs.declared.Word.{Word}
use Rattle.requests.specs.declared.Word.TheVariants.{Digit, Draw, Read, Test, Split, Ask, Add}
use Rattle.calls.specs.Answers.{called}
use Rattle.calls.proofs.call.Goals as goal

-- the rule, by the word that was found
by_word : (word found : Word) (places : ℕ) (typed : List ℕ) → word ≡ found → called word places typed ≡ called found places typed
by_word word found places typed is = ap (λ (w : Word). called w places typed) is

pub returns-in-Digit : goal.returns-in-Digit
returns-in-Digit c =
    puts_same _ _ _ _ _ (by_word _ Digit _ _ c.in-Digit.is ∙ ap answer_line (sym c.check_digit.ensures)) c.put_answer.ensures

pub returns-in-Draw : goal.returns-in-Draw
returns-in-Draw c =
    puts_same _ _ _ _ _ (by_word _ (Draw _) _ _ c.in-Draw.is) c.draw.ensures

pub returns-in-Read : goal.returns-in-Read
returns-in-Read c =
    puts_same _ _ _ _ _ (by_word _ (Read _) _ _ c.in-Read.is) c.read.ensures

pub returns-in-Test : goal.returns-in-Test
returns-in-Test c =
    puts_same _ _ _ _ _ (by_word _ Test _ _ c.in-Test.is ∙ ap answer_line (sym c.test.ensures)) c.put_answer-in-Test.ensures

pub returns-in-Split : goal.returns-in-Split
returns-in-Split c =
    puts_same _ _ _ _ _ (by_word _ Split _ _ c.in-Split.is) c.split.ensures

pub returns-in-Ask : goal.returns-in-Ask
returns-in-Ask c =
    puts_same _ _ _ _ _ (by_word _ Ask _ _ c.in-Ask.is) c.ask.ensures

pub returns-in-Add : goal.returns-in-Add
returns-in-Add c =
    puts_same _ _ _ _ _ (by_word _ Add _ _ c.in-Add.is) c.add.ensures
