use Rattle.std.proofs.lemmas.Result.{IfOk-weaker, IfErr-weaker, MatchResult-weaker}
use Rattle.follower.proofs.OpenLemmas.{made_text, made_synced, made_opened, not_made, read_in_use, target_made, opened_before, refused_before, target_before}
use Rattle.follower.proofs.follower.opening.make_or_open.Goals as goal

pub adopt-requires-clause-text : goal.adopt-requires-clause-text
adopt-requires-clause-text g c = made_text g.D.LogDisk.drive c.args.width c.args.cells.now (g.D.LogDisk.drive c.args.disk) c.in-Ok.disk c.in-Ok.ensures.made

pub adopt-requires-clause-synced : goal.adopt-requires-clause-synced
adopt-requires-clause-synced g c = made_synced g.D.LogDisk.drive c.args.width c.args.cells.now (g.D.LogDisk.drive c.args.disk) c.in-Ok.disk c.in-Ok.ensures.made

pub returns-in-Ok-clause-opened : goal.returns-in-Ok-clause-opened
returns-in-Ok-clause-opened g c =
    rw c.adopt.ensures (made_opened g.D.LogDisk.drive c.args.width c.args.cells.now (g.D.LogDisk.drive c.args.disk) c.in-Ok.disk c.in-Ok.ensures.made c.in-Ok.ensures.small.file)

pub returns-in-Ok-clause-any_moment : goal.returns-in-Ok-clause-any_moment
returns-in-Ok-clause-any_moment g c =
    rw c.adopt.ensures (target_made c.args.width c.args.cells.now (g.D.LogDisk.drive c.args.disk) (g.D.LogDisk.drive c.in-Ok.disk) (g.met.D.LogDisk.keeps_laws c.args.disk) c.in-Ok.ensures.small)

pub returns-in-InUse-clause-opened : goal.returns-in-InUse-clause-opened
returns-in-InUse-clause-opened g c =
    let drive = g.D.LogDisk.drive in
    let reads = read_in_use (drive c.args.disk) (drive c.in-Err.refused.disk) c.in-Err.refused.cause c.in-InUse.len c.in-Err.ensures.refused c.in-InUse.is c.in-Err.ensures.small.file in
    IfOk-weaker c.open_found.result _ _ (λ log is. opened_before c.args.width c.args.cells.now (drive c.args.disk) (drive c.in-Err.refused.disk) reads drive log is) c.open_found.ensures.opened

pub returns-in-InUse-clause-refused : goal.returns-in-InUse-clause-refused
returns-in-InUse-clause-refused g c =
    let drive = g.D.LogDisk.drive in
    let reads = read_in_use (drive c.args.disk) (drive c.in-Err.refused.disk) c.in-Err.refused.cause c.in-InUse.len c.in-Err.ensures.refused c.in-InUse.is c.in-Err.ensures.small.file in
    IfErr-weaker c.open_found.result _ _ (λ e is. refused_before c.args.width c.args.cells.now (drive c.args.disk) (drive c.in-Err.refused.disk) reads (drive e.disk) e.fault is) c.open_found.ensures.refused

pub returns-in-InUse-clause-any_moment : goal.returns-in-InUse-clause-any_moment
returns-in-InUse-clause-any_moment g c =
    let drive = g.D.LogDisk.drive in
    let reads = read_in_use (drive c.args.disk) (drive c.in-Err.refused.disk) c.in-Err.refused.cause c.in-InUse.len c.in-Err.ensures.refused c.in-InUse.is c.in-Err.ensures.small.file in
    let laws = g.met.D.LogDisk.keeps_laws c.args.disk in
    MatchResult-weaker c.open_found.result c.open_found.ensures.any_moment
    (λ log is. target_before c.args.width c.args.cells.now (drive c.args.disk) (drive c.in-Err.refused.disk) reads (drive log.disk) laws is)
    (λ e is. target_before c.args.width c.args.cells.now (drive c.args.disk) (drive c.in-Err.refused.disk) reads (drive e.disk) laws is)

pub returns-in-Disk-clause-refused : goal.returns-in-Disk-clause-refused
returns-in-Disk-clause-refused g c =
    not_made c.args.width c.args.cells.now (g.D.LogDisk.drive c.args.disk) (g.D.LogDisk.drive c.in-Err.refused.disk) c.in-Err.refused.cause c.in-Err.ensures.refused c.in-Disk.is c.in-Err.ensures.small

pub returns-in-Disk-clause-any_moment : goal.returns-in-Disk-clause-any_moment
returns-in-Disk-clause-any_moment g c =
    target_made c.args.width c.args.cells.now (g.D.LogDisk.drive c.args.disk) (g.D.LogDisk.drive c.in-Err.refused.disk) (g.met.D.LogDisk.keeps_laws c.args.disk) c.in-Err.ensures.small
