use Rattle.std.proofs.Common.{sym, subst}
use Rattle.store_file.specs.Waiting.{ClosesUnsynced}
use Rattle.store_file.proofs.WaitingFacts.{closes-synced, closes-unsynced, fixed-by}
use Rattle.store_file.proofs.waiting.close_at_sync.Goals as goal

pub returns-in-Ok-clause-closes : goal.returns-in-Ok-clause-closes
returns-in-Ok-clause-closes g c =
    closes-synced g.D.LogDisk.drive g.I.Index.WIDTH c.args.pass c.close-book.result c.sync.new.self c.sync.ensures.book c.close-book.ensures.value c.close-book.ensures.own
    (fixed-by g.D.LogDisk.drive c.close-book.result c.args.pass c.close-book.ensures.value.1 c.close-book.ensures.start)
    c.disk_of.result c.disk_of.ensures c.in-Ok.field-0 c.in-Ok.ensures.ok c.in-Ok.ensures.refused

pub returns-in-Err-clause-unsynced : goal.returns-in-Err-clause-unsynced
returns-in-Err-clause-unsynced g c =
    subst (ClosesUnsynced g.D.LogDisk.drive g.I.Index.WIDTH c.args.pass c.disk_of-in-Err.result) (sym c.sync_cause.ensures)
    (closes-unsynced g.D.LogDisk.drive g.I.Index.WIDTH c.args.pass c.close-book.result c.sync.new.self c.sync.ensures.book c.close-book.ensures.value c.close-book.ensures.own
    (fixed-by g.D.LogDisk.drive c.close-book.result c.args.pass c.close-book.ensures.value.1 c.close-book.ensures.start)
    c.disk_of-in-Err.result c.disk_of-in-Err.ensures c.in-Err.fault c.in-Err.ensures.refused c.in-Err.ensures.err)
