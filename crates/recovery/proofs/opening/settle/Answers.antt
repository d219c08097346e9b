use Rattle.std.proofs.Common.{lit≤, Err, ap, sym, ◌∙◌, arith}
use Rattle.cell_format.specs.Spelling.{newest}
use Rattle.disk_trait.specs.Drive.{Drive}
use Rattle.recovery.specs.Found.{IsNewest}
use Rattle.recovery.proofs.PieceLemmas.{passed_on}
use Rattle.recovery.proofs.OnlyReading.{found_before}
use Rattle.recovery.proofs.OpeningLemmas.{leaves-sync, newest-read, newest-last, keeps_sync, keeps_stays, keeps_log, calls_open, is_ready, newest_is, not_ok, rose-later, refused_sync, refused_read, refused_cut}
use Rattle.recovery.proofs.WantedLemmas.{finds_wanted, refuses_read}
use Rattle.recovery.proofs.opening.settle.Goals as goal

pub returns-in_err-sync-clause-opened : goal.returns-in_err-sync-clause-opened
returns-in_err-sync-clause-opened g c =
    not_ok c.from_residual.result _ _ c.from_residual.ensures.1

pub returns-in_err-sync-clause-refused : goal.returns-in_err-sync-clause-refused
returns-in_err-sync-clause-refused g c =
    passed_on c.from_residual.result _ _ c.from_residual.ensures.1 (record {
      fault = refuses_read newest c.args.wanted.width c.args.wanted.most _ _ _ (lit≤ tt) (λ bytes told. tt) tt (λ disk. c.in_err-sync.ensures.cause.failed);
      leaves = refused_sync c.args.wanted.width c.args.wanted.most (g.D.LogDisk.drive c.args.disk.now) (g.D.LogDisk.drive c.sync.new.self) c.sync.result
          (λ now. leaves-sync (g.D.LogDisk.drive c.args.disk.now) (g.D.LogDisk.drive c.sync.new.self) IsNewest c.sync.result (g.met.D.LogDisk.keeps_laws c.args.disk.now) now c.sync.ensures.syncs)
          c.sync.ensures.syncs c.in_err-sync.ensures.made c.sync.ensures.cause.file;
    })

pub returns-in_err-sync-clause-any_moment : goal.returns-in_err-sync-clause-any_moment
returns-in_err-sync-clause-any_moment g c =
    let drive = g.D.LogDisk.drive in
    keeps_sync (drive c.args.disk.now) (drive c.sync.new.self) c.sync.result (g.met.D.LogDisk.keeps_laws c.args.disk.now) c.sync.ensures.syncs c.sync.ensures.cause.later

pub returns-in_err-found-clause-opened : goal.returns-in_err-found-clause-opened
returns-in_err-found-clause-opened g c =
    not_ok c.from_residual-in_err-found.result _ _ c.from_residual-in_err-found.ensures.1

pub returns-in_err-found-clause-refused : goal.returns-in_err-found-clause-refused
returns-in_err-found-clause-refused g c =
    let old : Drive = g.D.LogDisk.drive c.args.disk.now in
    let mid : Drive = g.D.LogDisk.drive c.sync.new.self in
    let new : Drive = g.D.LogDisk.drive c.read_log.new.disk in
    passed_on c.from_residual-in_err-found.result _ _ c.from_residual-in_err-found.ensures.1 (record {
      fault = refuses_read newest c.args.wanted.width c.args.wanted.most old new _ (lit≤ tt) (λ bytes told. c.in_err-found.ensures.fault bytes (c.sync.ensures.syncs.bytes ∙ told)) c.in_err-found.ensures.may
          (λ disk. rose-later old.faults mid.faults new.faults c.sync.ensures.cause.later (c.in_err-found.ensures.reads.failed (ap (λ x. Err x) disk)));
      leaves = refused_read c.args.wanted.width c.args.wanted.most old mid new c.sync.result _
          (newest-read old mid new c.sync.result (g.met.D.LogDisk.keeps_laws c.args.disk.now) (g.met.D.LogDisk.keeps_laws c.sync.new.self) c.sync.ensures.syncs c.read_log.ensures.reads.stays)
          c.sync.ensures.syncs c.in_ok-sync.ensures.made c.read_log.ensures.reads.stays c.in_ok-sync.ensures.cause.same c.in_err-found.ensures.reads.same
          (λ all told. c.sync.ensures.cause.file all (c.read_log.ensures.reads.file all told));
    })

pub returns-in_err-found-clause-any_moment : goal.returns-in_err-found-clause-any_moment
returns-in_err-found-clause-any_moment g c =
    let drive = g.D.LogDisk.drive in
    let laws = g.met.D.LogDisk.keeps_laws in
    keeps_stays (drive c.args.disk.now) (drive c.sync.new.self) (drive c.read_log.new.disk) (laws c.sync.new.self) c.sync.ensures.syncs.bytes c.sync.ensures.syncs.crash
    (keeps_sync (drive c.args.disk.now) (drive c.sync.new.self) c.sync.result (laws c.args.disk.now) c.sync.ensures.syncs c.sync.ensures.cause.later)
    c.read_log.ensures.reads.stays c.read_log.ensures.reads.later

pub returns-in_err-cut_behind-clause-opened : goal.returns-in_err-cut_behind-clause-opened
returns-in_err-cut_behind-clause-opened g c =
    not_ok c.from_residual-in_err-cut_behind.result _ _ c.from_residual-in_err-cut_behind.ensures.1

pub returns-in_err-cut_behind-clause-refused : goal.returns-in_err-cut_behind-clause-refused
returns-in_err-cut_behind-clause-refused g c =
    let drive = g.D.LogDisk.drive in
    let laws = g.met.D.LogDisk.keeps_laws in
    passed_on c.from_residual-in_err-cut_behind.result _ _ c.from_residual-in_err-cut_behind.ensures.1 (record {
      fault = refuses_read newest c.args.wanted.width c.args.wanted.most _ _ _ (lit≤ tt) (λ bytes told. tt) tt (λ disk. omega (arith, c.sync.ensures.cause.later, c.read_log.ensures.reads.later, c.in_err-cut_behind.ensures.cause.failed));
      leaves = refused_cut c.args.wanted.width c.in_ok-found.found.width c.args.wanted.most c.in_ok-found.found.len (drive c.args.disk.now) (drive c.sync.new.self) (drive c.read_log.new.disk) (drive c.cut_behind.new.disk) c.in_ok-found.found.seen
          (newest-last (drive c.args.disk.now) (drive c.sync.new.self) (drive c.read_log.new.disk) (drive c.cut_behind.new.disk) c.sync.result (laws c.args.disk.now) (laws c.sync.new.self) c.sync.ensures.syncs c.read_log.ensures.reads.stays (c.cut_behind.ensures.newest (omega arith)))
          c.sync.ensures.syncs.bytes c.in_ok-found.ensures.found c.in_ok-sync.ensures.made c.read_log.ensures.reads.stays c.cut_behind.ensures.told c.in_err-cut_behind.ensures.calls
          (λ all told. c.sync.ensures.cause.file all (c.read_log.ensures.reads.file all (c.cut_behind.ensures.cause.file all told)));
    })

pub returns-in_err-cut_behind-clause-any_moment : goal.returns-in_err-cut_behind-clause-any_moment
returns-in_err-cut_behind-clause-any_moment g c =
    let drive = g.D.LogDisk.drive in
    let laws = g.met.D.LogDisk.keeps_laws in
    keeps_log c.in_ok-found.found.width c.args.wanted.most c.in_ok-found.found.len (drive c.args.disk.now) (drive c.sync.new.self) (drive c.read_log.new.disk) c.in_ok-found.found.seen (laws c.args.disk.now) (laws c.sync.new.self)
    c.sync.ensures.syncs.bytes c.sync.ensures.syncs.crash c.in_ok-found.ensures.found.within c.read_log.ensures.reads.stays (drive c.cut_behind.new.disk) c.in_ok-found.ensures.found.log.width
    (keeps_sync (drive c.args.disk.now) (drive c.sync.new.self) c.sync.result (laws c.args.disk.now) c.sync.ensures.syncs c.sync.ensures.cause.later) c.read_log.ensures.reads.later c.cut_behind.ensures.cause.later c.cut_behind.ensures.any_moment

pub returns-clause-any_moment : goal.returns-clause-any_moment
returns-clause-any_moment g c =
    let drive = g.D.LogDisk.drive in
    let laws = g.met.D.LogDisk.keeps_laws in
    keeps_log c.in_ok-found.found.width c.args.wanted.most c.in_ok-found.found.len (drive c.args.disk.now) (drive c.sync.new.self) (drive c.read_log.new.disk) c.in_ok-found.found.seen (laws c.args.disk.now) (laws c.sync.new.self)
    c.sync.ensures.syncs.bytes c.sync.ensures.syncs.crash c.in_ok-found.ensures.found.within c.read_log.ensures.reads.stays (drive c.cut_behind.new.disk) c.in_ok-found.ensures.found.log.width
    (keeps_sync (drive c.args.disk.now) (drive c.sync.new.self) c.sync.result (laws c.args.disk.now) c.sync.ensures.syncs c.sync.ensures.cause.later) c.read_log.ensures.reads.later c.cut_behind.ensures.cause.later c.cut_behind.ensures.any_moment

pub returns-clause-opened : goal.returns-clause-opened
returns-clause-opened g c =
    let drive = g.D.LogDisk.drive in
    let laws = g.met.D.LogDisk.keeps_laws in
    let at = c.in_ok-found.ensures.found in
    let w = c.in_ok-found.found.width in
    let calls = calls_open w c.args.wanted.most c.in_ok-found.found.len (drive c.args.disk.now) (drive c.sync.new.self) (drive c.read_log.new.disk) c.in_ok-found.found.seen (laws c.args.disk.now) (laws c.sync.new.self)
    c.sync.ensures.syncs.bytes c.sync.ensures.syncs.crash at.within c.read_log.ensures.reads.stays (drive c.cut_behind.new.disk) c.in_ok-sync.ensures.made c.in_ok-cut_behind.ensures.calls in
    record {
      log = finds_wanted newest c.args.wanted.width c.args.wanted.most (drive c.args.disk.now) w c.in_ok-found.found.seen (lit≤ tt)
          (record { known = at.log.width.known; named = λ bytes told. at.log.width.named bytes (c.sync.ensures.syncs.bytes ∙ told) }) at.log.fits
          (found_before newest w c.args.wanted.most (drive c.args.disk.now) (drive c.sync.new.self) c.in_ok-found.found.seen c.sync.ensures.syncs.bytes at.within.found);
      version = newest_is c.in_ok-found.found.seen.version at.within.found.wanted;
      ready = is_ready w c.args.wanted.most c.in_ok-found.found.len (drive c.args.disk.now) (drive c.sync.new.self) (drive c.read_log.new.disk) c.in_ok-found.found.seen (laws c.args.disk.now) (laws c.sync.new.self)
          c.sync.ensures.syncs.bytes c.sync.ensures.syncs.crash at.within c.read_log.ensures.reads.stays (drive c.cut_behind.new.disk)
          (newest-last (drive c.args.disk.now) (drive c.sync.new.self) (drive c.read_log.new.disk) (drive c.cut_behind.new.disk) c.sync.result (laws c.args.disk.now) (laws c.sync.new.self) c.sync.ensures.syncs c.read_log.ensures.reads.stays (c.cut_behind.ensures.newest (omega arith)))
          (c.in_ok-cut_behind.ensures.cause.same ∙ c.in_ok-found.ensures.reads.same ∙ c.in_ok-sync.ensures.cause.same)
          (λ all told. c.sync.ensures.cause.file all (c.read_log.ensures.reads.file all (c.cut_behind.ensures.cause.file all told))) calls
          c.in_ok-sync.ensures.syncs.done c.cut_behind.ensures.told c.in_ok-cut_behind.ensures.done;
    }

pub cut_behind-requires-clause-within : goal.cut_behind-requires-clause-within
cut_behind-requires-clause-within g c =
    c.in_ok-found.ensures.found.within.room

pub cut_behind-requires-clause-whole : goal.cut_behind-requires-clause-whole
cut_behind-requires-clause-whole g c =
    λ xs told. c.in_ok-found.ensures.found.within.whole xs (sym c.read_log.ensures.reads.stays.bytes ∙ told)

pub read_log-requires : goal.read_log-requires
read_log-requires g c =
    record { oldest = lit≤ tt; width = c.requires.width }
