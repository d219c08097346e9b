use Rattle.std.proofs.Common.{sym, subst, refl, ap}
use Rattle.kept_log.specs.Journal.{moves_in}
use Rattle.commit_book.specs.BookView.{BookView}
use Rattle.store_file.specs.Ended.{EndsRotation}
use Rattle.store_file.specs.Rotated.{AreLeft}
use Rattle.store_file.specs.Waiting.{ClosesUnsynced}
use Rattle.store_file.proofs.EndedFacts.{ends-moved, ends-unbegun, good-seen, rotates-at-sync, synced-ended}
use Rattle.store_file.proofs.Results.{ok-with, err-with}
use Rattle.store_file.proofs.WaitingFacts.{closes-unsynced, fixed-by}
use Rattle.store_file.proofs.rotating_at_sync.rotate_at_sync.Goals as goal

pub returns-in-Err-clause-ended : goal.returns-in-Err-clause-ended
returns-in-Err-clause-ended g c = (
  subst (ClosesUnsynced g.D.LogDisk.drive g.I.Index.WIDTH c.args.pass c.disk_of.result) (sym c.sync_cause.ensures)
      (closes-unsynced g.D.LogDisk.drive g.I.Index.WIDTH c.args.pass c.close-book.result c.sync.new.self c.sync.ensures.book c.close-book.ensures.value c.close-book.ensures.own
      (fixed-by g.D.LogDisk.drive c.close-book.result c.args.pass c.close-book.ensures.value.1 c.close-book.ensures.start)
      c.disk_of.result c.disk_of.ensures c.in-Err.fault c.in-Err.ensures.refused c.in-Err.ensures.err),
  refl,
)

pub finish_at_sync-requires-clause-fixed : goal.finish_at_sync-requires-clause-fixed
finish_at_sync-requires-clause-fixed g c = ap (λ (b : BookView _). moves_in b.log) c.rotate.ensures.rotated

pub returns-in-Ok-clause-rotated : goal.returns-in-Ok-clause-rotated
returns-in-Ok-clause-rotated g c =
    let drive = g.D.LogDisk.drive in
    let w = g.I.Index.WIDTH in
    let opened = c.in-Ok.opened in
    let by = c.in_default.ensures in
    let good = good-seen drive w c.args.pass c.close-book.result c.sync.new.self c.sync.ensures.book c.close-book.ensures.value c.close-book.ensures.own (fixed-by g.D.LogDisk.drive c.close-book.result c.args.pass c.close-book.ensures.value.1 c.close-book.ensures.start) c.close-book.ensures.world c.in_default.field-0 by.ok by.refused in
    let ended = synced-ended drive w c.args.pass c.close-book.result c.sync.new.self c.sync.ensures.book c.close-book.ensures.value c.close-book.ensures.own (fixed-by g.D.LogDisk.drive c.close-book.result c.args.pass c.close-book.ensures.value.1 c.close-book.ensures.start) c.close-book.ensures.world c.in_default.field-0 by.ok by.refused in
    ok-with _ _
    (λ r on. rotates-at-sync drive w c.args.pass c.sync.new.self ended good c.args.spare opened.start.value opened.seen opened.log c.in-Ok.ensures.begun c.in-Ok.ensures.content
    c.rotate.result.book c.rotate.ensures.rotated c.rotate.result.log c.rotate.ensures.log r.store r.pass r.spare on)
    c.finish_at_sync.result c.finish_at_sync.ensures.finished

pub returns-in-Ok-clause-ended : goal.returns-in-Ok-clause-ended
returns-in-Ok-clause-ended g c =
    let drive = g.D.LogDisk.drive in
    let w = g.I.Index.WIDTH in
    let opened = c.in-Ok.opened in
    let by = c.in_default.ensures in
    let good = good-seen drive w c.args.pass c.close-book.result c.sync.new.self c.sync.ensures.book c.close-book.ensures.value c.close-book.ensures.own (fixed-by g.D.LogDisk.drive c.close-book.result c.args.pass c.close-book.ensures.value.1 c.close-book.ensures.start) c.close-book.ensures.world c.in_default.field-0 by.ok by.refused in
    let ended = synced-ended drive w c.args.pass c.close-book.result c.sync.new.self c.sync.ensures.book c.close-book.ensures.value c.close-book.ensures.own (fixed-by g.D.LogDisk.drive c.close-book.result c.args.pass c.close-book.ensures.value.1 c.close-book.ensures.start) c.close-book.ensures.world c.in_default.field-0 by.ok by.refused in
    err-with _ _
    (λ e on. ends-moved drive w c.args.pass c.sync.new.self ended good c.args.spare opened.start.value opened.seen opened.log c.in-Ok.ensures.begun c.in-Ok.ensures.content
    c.rotate.result.book c.rotate.ensures.rotated c.rotate.result.log c.rotate.ensures.log e.first e.second e.cause c.finish_at_sync.ensures.book on)
    c.finish_at_sync.result c.finish_at_sync.ensures.refused

pub returns-in-Err-begin_here-clause-ended : goal.returns-in-Err-begin_here-clause-ended
returns-in-Err-begin_here-clause-ended g c =
    let drive = g.D.LogDisk.drive in
    let w = g.I.Index.WIDTH in
    let by = c.in_default.ensures in
    let e = c.in-Err-begin_here.field-0 in
    let good = good-seen drive w c.args.pass c.close-book.result c.sync.new.self c.sync.ensures.book c.close-book.ensures.value c.close-book.ensures.own (fixed-by g.D.LogDisk.drive c.close-book.result c.args.pass c.close-book.ensures.value.1 c.close-book.ensures.start) c.close-book.ensures.world c.in_default.field-0 by.ok by.refused in
    let ended = synced-ended drive w c.args.pass c.close-book.result c.sync.new.self c.sync.ensures.book c.close-book.ensures.value c.close-book.ensures.own (fixed-by g.D.LogDisk.drive c.close-book.result c.args.pass c.close-book.ensures.value.1 c.close-book.ensures.start) c.close-book.ensures.world c.in_default.field-0 by.ok by.refused in
    subst (EndsRotation drive w (AreLeft w c.args.pass.origin c.args.pass.seen) c.args.pass c.args.spare c.disk_of-in-Err-begin_here.result e.disk) (sym c.ended_by.ensures)
    (ends-unbegun drive w c.args.pass c.sync.new.self ended good c.args.spare c.disk_of-in-Err-begin_here.result e.disk c.disk_of-in-Err-begin_here.ensures e.cause c.in-Err-begin_here.ensures.refused)
