-- `splitting::split_twelve` meets its contract: the front of twelve blank records is lent and filled, and the others stay blank.
use Rattle.splitting.proofs.SplitLaws.{twelve_filled}
use Rattle.splitting.proofs.split_twelve.Goals as goal

pub returns : goal.returns
returns c =
    let e = c.min.ensures in
    let h = rw e at c.split-answer.ensures in
    let kept = rw e at c.split-answer.auto.records in
    rw e (twelve_filled c.args.message.now c.args.room _ _ h kept)
