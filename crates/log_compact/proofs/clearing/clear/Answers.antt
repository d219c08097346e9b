-- A call that fails ends the clearing. The calls before it decide what is on the drive.
use Rattle.std.proofs.Common.{true, false, [], ◌∷◌, sym, ◌∙◌, lit≤}
use Rattle.disk_trait.proofs.Calls.{made-then}
use Rattle.split_log.proofs.Kept.{on_err}
use Rattle.log_compact.proofs.Clearings.{written, synced, cut, all_done, cleared, still_within}
use Rattle.log_compact.proofs.clearing.clear.Goals as goal

pub returns-in_err-write-clause-any_moment : goal.returns-in_err-write-clause-any_moment
returns-in_err-write-clause-any_moment g c w cells some log =
    written w cells (g.D.LogDisk.drive c.args.disk.now) log (g.met.D.LogDisk.keeps_laws c.args.disk.now) some (g.D.LogDisk.drive c.write.new.self) c.write.result c.write.ensures.writes

pub returns-in_err-sync-clause-any_moment : goal.returns-in_err-sync-clause-any_moment
returns-in_err-sync-clause-any_moment g c w cells some log =
    synced w cells (g.D.LogDisk.drive c.args.disk.now) log (g.met.D.LogDisk.keeps_laws c.args.disk.now) some (g.D.LogDisk.drive c.write.new.self) c.write.result c.write.ensures.writes (g.D.LogDisk.drive c.sync.new.self) c.sync.result c.sync.ensures.syncs

pub returns-in_err-sync-clause-stopped : goal.returns-in_err-sync-clause-stopped
returns-in_err-sync-clause-stopped g c =
    on_err c.from_residual-in_err-sync.result _ (1, record { few = lit≤ tt; calls = made-then (true ∷ []) (false ∷ []) (g.D.LogDisk.drive c.args.disk.now) (g.D.LogDisk.drive c.write.new.self) (g.D.LogDisk.drive c.sync.new.self) c.in_ok-write.ensures.made c.in_err-sync.ensures.made })

pub returns-in_err-cut-clause-any_moment : goal.returns-in_err-cut-clause-any_moment
returns-in_err-cut-clause-any_moment g c w cells some log =
    cut w cells (g.D.LogDisk.drive c.args.disk.now) log (g.D.LogDisk.drive c.write.new.self) c.in_ok-write.ensures.writes.done (g.D.LogDisk.drive c.sync.new.self) c.sync.ensures.syncs.bytes c.in_ok-sync.ensures.syncs.done (g.D.LogDisk.drive c.cut.new.self) c.cut.result c.cut.ensures.cuts
    (synced w cells (g.D.LogDisk.drive c.args.disk.now) log (g.met.D.LogDisk.keeps_laws c.args.disk.now) some (g.D.LogDisk.drive c.write.new.self) c.write.result c.write.ensures.writes (g.D.LogDisk.drive c.sync.new.self) c.sync.result c.sync.ensures.syncs)

pub returns-in_err-cut-clause-stopped : goal.returns-in_err-cut-clause-stopped
returns-in_err-cut-clause-stopped g c =
    on_err c.from_residual-in_err-cut.result _ (2, record { few = lit≤ tt; calls = made-then (true ∷ true ∷ []) (false ∷ []) (g.D.LogDisk.drive c.args.disk.now) (g.D.LogDisk.drive c.sync.new.self) (g.D.LogDisk.drive c.cut.new.self) (made-then (true ∷ []) (true ∷ []) (g.D.LogDisk.drive c.args.disk.now) (g.D.LogDisk.drive c.write.new.self) (g.D.LogDisk.drive c.sync.new.self) c.in_ok-write.ensures.made c.in_ok-sync.ensures.made) c.in_err-cut.ensures.made })

pub returns-in_err-sync-2-clause-any_moment : goal.returns-in_err-sync-2-clause-any_moment
returns-in_err-sync-2-clause-any_moment g c w cells some log =
    all_done w cells (g.D.LogDisk.drive c.args.disk.now) log (g.D.LogDisk.drive c.write.new.self) c.in_ok-write.ensures.writes.done (g.D.LogDisk.drive c.sync.new.self) c.sync.ensures.syncs.bytes c.in_ok-sync.ensures.syncs.done (g.D.LogDisk.drive c.cut.new.self) c.cut.result c.cut.ensures.cuts
    (synced w cells (g.D.LogDisk.drive c.args.disk.now) log (g.met.D.LogDisk.keeps_laws c.args.disk.now) some (g.D.LogDisk.drive c.write.new.self) c.write.result c.write.ensures.writes (g.D.LogDisk.drive c.sync.new.self) c.sync.result c.sync.ensures.syncs)
    (g.D.LogDisk.drive c.sync-2.new.self) c.sync-2.result c.sync-2.ensures.syncs

pub returns-in_err-sync-2-clause-stopped : goal.returns-in_err-sync-2-clause-stopped
returns-in_err-sync-2-clause-stopped g c =
    on_err c.from_residual-in_err-sync-2.result _ (3, record { few = lit≤ tt; calls = made-then (true ∷ true ∷ true ∷ []) (false ∷ []) (g.D.LogDisk.drive c.args.disk.now) (g.D.LogDisk.drive c.cut.new.self) (g.D.LogDisk.drive c.sync-2.new.self) (made-then (true ∷ true ∷ []) (true ∷ []) (g.D.LogDisk.drive c.args.disk.now) (g.D.LogDisk.drive c.sync.new.self) (g.D.LogDisk.drive c.cut.new.self) (made-then (true ∷ []) (true ∷ []) (g.D.LogDisk.drive c.args.disk.now) (g.D.LogDisk.drive c.write.new.self) (g.D.LogDisk.drive c.sync.new.self) c.in_ok-write.ensures.made c.in_ok-sync.ensures.made) c.in_ok-cut.ensures.made) c.in_err-sync-2.ensures.made })

pub cut-requires : goal.cut-requires
cut-requires g c =
    record { within = λ xs told. still_within (g.D.LogDisk.drive c.args.disk.now) (g.D.LogDisk.drive c.write.new.self) c.write.ensures.writes.told c.requires.within c.in_ok-write.ensures.writes.done xs (sym c.sync.ensures.syncs.bytes ∙ told) }

pub returns-clause-any_moment : goal.returns-clause-any_moment
returns-clause-any_moment g c w cells some log =
    all_done w cells (g.D.LogDisk.drive c.args.disk.now) log (g.D.LogDisk.drive c.write.new.self) c.in_ok-write.ensures.writes.done (g.D.LogDisk.drive c.sync.new.self) c.sync.ensures.syncs.bytes c.in_ok-sync.ensures.syncs.done (g.D.LogDisk.drive c.cut.new.self) c.cut.result c.cut.ensures.cuts
    (synced w cells (g.D.LogDisk.drive c.args.disk.now) log (g.met.D.LogDisk.keeps_laws c.args.disk.now) some (g.D.LogDisk.drive c.write.new.self) c.write.result c.write.ensures.writes (g.D.LogDisk.drive c.sync.new.self) c.sync.result c.sync.ensures.syncs)
    (g.D.LogDisk.drive c.sync-2.new.self) c.sync-2.result c.sync-2.ensures.syncs

pub returns-clause-cleared : goal.returns-clause-cleared
returns-clause-cleared g c w cells log =
    cleared w cells (g.D.LogDisk.drive c.args.disk.now) log (g.D.LogDisk.drive c.write.new.self) c.in_ok-write.ensures.writes.done (g.D.LogDisk.drive c.sync.new.self) c.sync.ensures.syncs.bytes c.in_ok-sync.ensures.syncs.done (g.D.LogDisk.drive c.cut.new.self) (g.D.LogDisk.drive c.sync-2.new.self) c.in_ok-cut.ensures.cuts.done c.sync-2.ensures.syncs.bytes c.in_ok-sync-2.ensures.syncs.done

pub returns-clause-synced : goal.returns-clause-synced
returns-clause-synced g c xs told =
    c.in_ok-sync-2.ensures.syncs.done xs (sym c.sync-2.ensures.syncs.bytes ∙ told)
