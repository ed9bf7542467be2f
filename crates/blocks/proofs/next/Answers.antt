-- `blocks::next` meets its contract: what was moved to the front stays there, since the next block is read after it.
use Rattle.blocks.specs.Blocks.{filled}
use Rattle.blocks.proofs.HoldsLaws.{holds_after}
use Rattle.blocks.proofs.next.Goals as goal

pub returns-clause-holds : goal.returns-clause-holds
returns-clause-holds g c =
    let args = c.args in
    let within = c.requires.start_in_bounds in
    let held = c.min-held in
    rw (← held.ensures) (holds_after args.input.now (filled args.block) args.start args.most held.result within.1 within.0 held.ensures c.copy_within.new.self c.copy_within.ensures.after c.read_after.new.space)
