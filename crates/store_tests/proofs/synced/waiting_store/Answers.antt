use Rattle.std.proofs.Common.{ℕ, sym, subst}
use Rattle.cell_format.specs.Spelling.{newest}
use Rattle.recovery.specs.Found.{IsFound}
use Rattle.kept_log.specs.Kept.{IsOpened, found_state}
use Rattle.kept_log.proofs.Starting.{opened-found}
use Rattle.commit_book.specs.OpenedLog.{IsOpenedLog}
use Rattle.sessions.proofs.WorldSteps.{any_start}
use Rattle.store_tests.proofs.synced.waiting_store.Goals as goal

pub opened-requires : goal.opened-requires
opened-requires g c =
    let drive = g.D.LogDisk.drive in
    let opened = c.in-Ok.opened in
    let says = c.in-Ok.ensures in
    let width = c.WIDTH.result in
    let is = opened-found width 16777216 (drive c.args.disk) (drive opened.log.disk) opened.seen says.opened.log.found says.opened.ready (says.any_moment.cells width) in
    subst (λ (w : ℕ). IsOpenedLog drive w opened.seen opened.start.value opened.log) c.WIDTH.ensures
    (record {
      counts = says.log.0;
      good = says.log.1;
      found = subst (λ (d : g.row.D.Denot). IsFound newest width 16777216 (drive d) opened.seen) (sym says.start) says.opened.log.found;
      ready = subst (λ (d : g.row.D.Denot). IsOpened width (found_state opened.seen) (drive d) (drive opened.log.disk)) (sym says.start) is;
    })

pub new-requires-clause-start : goal.new-requires-clause-start
new-requires-clause-start g c = any_start g.D.LogDisk.drive c.in-Ok-at_sync.book.log
