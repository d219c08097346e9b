use Rattle.follower.proofs.ReopenLemmas.{other_count, same_count, not_opened}
use Rattle.follower.proofs.reopening.reopen.Goals as goal

pub returns-then-opened-count-clause-refused : goal.returns-then-opened-count-clause-refused
returns-then-opened-count-clause-refused g c =
    other_count g.D.LogDisk.drive c.args.width c.args.count c.min.result c.in-Ok.opened.seen (g.D.LogDisk.drive c.args.disk) c.in-Ok.opened.log.disk c.give_back.result c.give_back.ensures c.in-Ok.ensures.opened.ready
    (c.in-Ok.ensures.any_moment.cells c.args.width) c.if-opened-count.true c.min.ensures

pub returns-clause-opened : goal.returns-clause-opened
returns-clause-opened g c =
    same_count g.D.LogDisk.drive c.args.width c.args.count c.in-Ok.opened.seen (g.D.LogDisk.drive c.args.disk) c.in-Ok.opened.log c.in-Ok.ensures.opened.ready (c.in-Ok.ensures.any_moment.cells c.args.width) c.in-Ok.ensures.log c.if-opened-count.false

pub returns-in-Err-clause-refused : goal.returns-in-Err-clause-refused
returns-in-Err-clause-refused g c =
    not_opened c.args.width c.args.count (g.D.LogDisk.drive c.args.disk) (g.D.LogDisk.drive c.in-Err.refused.disk) c.in-Err.refused.cause c.in-Err.ensures.refused c.in-Err.ensures.any_moment
