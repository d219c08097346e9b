use Rattle.std.proofs.Common.{length}
use Rattle.fence_watch.specs.Passages.{turns_in}
use Rattle.fence_watch.proofs.MarkLemmas.{quiet-pair}
use Rattle.fence_watch.proofs.Parts.{room-none}
use Rattle.fence_watch.proofs.guards.+make_room_in.Goals as goal

pub returns-then-is_quiet-clause-room : goal.returns-then-is_quiet-clause-room
returns-then-is_quiet-clause-room t c =
    let n = length c.args.guards.now in
    room-none c.args.guards.now (turns_in n c.args.pair) (quiet-pair n c.args.pair (c.is_quiet.ensures c.if-is_quiet.true))
