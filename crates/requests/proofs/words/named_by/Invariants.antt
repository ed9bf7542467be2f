use Rattle.std.proofs.Common.{◌≡◌, map, drop}
use Rattle.requests.specs.Words.{row_of, named_by}
use Rattle.requests.proofs.words.named_by.Given as goal

abbrev pub invariant-loop-name : goal.invariant-loop-name
invariant-loop-name l = named_by (drop l.name-index (map row_of l.rows)) l.word ≡ named_by (map row_of l.rows) l.word
