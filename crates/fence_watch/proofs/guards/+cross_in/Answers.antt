use Rattle.std.proofs.Common.{length, refl, sym}
use Rattle.fence_watch.specs.Guards.{behind_by, guards_of}
use Rattle.fence_watch.specs.Passages.{turns_in}
use Rattle.fence_watch.proofs.MarkLemmas.{quiet-pair}
use Rattle.fence_watch.proofs.AlongParts.{along-none}
use Rattle.fence_watch.proofs.guards.+cross_in.Goals as goal

pub returns-then-is_quiet : goal.returns-then-is_quiet
returns-then-is_quiet t c =
    let n = length c.args.guards.now in
    sym (along-none (behind_by c.args.id) (λ g. refl) (guards_of c.args.guards.now) (turns_in n c.args.pair) (quiet-pair n c.args.pair (c.is_quiet.ensures c.if-is_quiet.true)))
