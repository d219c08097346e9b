-- A call that fails ends the commit. The number of calls before it decides what is on the drive.
use Rattle.std.proofs.Common.{true, false, [], ◌∷◌, is_some, refl, ◌∙◌, ap, lit≤, arith}
use Rattle.disk_trait.proofs.Calls.{made-none, made-then}
use Rattle.split_log.proofs.Kept.{on_err, not_ok}
use Rattle.split_log.proofs.Calls.{counts-ok, counts-err}
use Rattle.split_log.proofs.Commits.{synced, synced-either, now_staged, committing, still_staged, done, committed}
use Rattle.split_log.proofs.committing.commit.Goals as goal

pub returns-in_err-sync-clause-any_moment : goal.returns-in_err-sync-clause-any_moment
returns-in_err-sync-clause-any_moment g c w cells more ready =
    synced-either w c.args.at cells more (g.D.LogDisk.drive c.args.disk.now) ready (g.met.D.LogDisk.keeps_laws c.args.disk.now)
    (g.D.LogDisk.drive c.sync.new.self) c.sync.result c.sync.ensures.syncs

pub returns-in_err-sync-clause-stopped : goal.returns-in_err-sync-clause-stopped
returns-in_err-sync-clause-stopped g c = on_err c.from_residual.result _ (record {
  went_well = 0;
  stops = record { few = lit≤ tt; calls = made-then ([]) (false ∷ []) (g.D.LogDisk.drive c.args.disk.now) (g.D.LogDisk.drive c.args.disk.now) (g.D.LogDisk.drive c.sync.new.self) (made-none (g.D.LogDisk.drive c.args.disk.now)) c.in_err-sync.ensures.made };
  leaves = λ w cells more ready. record {
    unstaged = λ few. synced w c.args.at cells more (g.D.LogDisk.drive c.args.disk.now) ready (g.met.D.LogDisk.keeps_laws c.args.disk.now)
        (g.D.LogDisk.drive c.sync.new.self) c.sync.result c.sync.ensures.syncs;
    staged = λ many. absurd (omega (arith, many));
  };
})

pub returns-in_err-sync-clause-committed : goal.returns-in_err-sync-clause-committed
returns-in_err-sync-clause-committed g c = not_ok c.from_residual.result _ c.from_residual.ensures.0

pub returns-in_err-sync-clause-calls : goal.returns-in_err-sync-clause-calls
returns-in_err-sync-clause-calls g c = not_ok c.from_residual.result _ c.from_residual.ensures.0

pub returns-in_err-sync-clause-told : goal.returns-in_err-sync-clause-told
returns-in_err-sync-clause-told g c = ap is_some c.sync.ensures.syncs.bytes

pub returns-in_err-sync-clause-cause : goal.returns-in_err-sync-clause-cause
returns-in_err-sync-clause-cause g c = counts-err (g.D.LogDisk.drive c.args.disk.now) (g.D.LogDisk.drive c.args.disk.now) (g.D.LogDisk.drive c.sync.new.self) c.in_err-sync.field-0.0 c.from_residual.result refl (λ all told. told) c.in_err-sync.ensures.cause c.from_residual.ensures.0

pub returns-in_err-write-clause-any_moment : goal.returns-in_err-write-clause-any_moment
returns-in_err-write-clause-any_moment g c w cells more ready =
    committing w c.args.at cells more (g.D.LogDisk.drive c.args.disk.now) ready (g.met.D.LogDisk.keeps_laws c.args.disk.now)
    (g.D.LogDisk.drive c.sync.new.self) c.sync.result c.sync.ensures.syncs c.in_ok-sync.ensures.syncs.done
    (g.D.LogDisk.drive c.write.new.self) c.write.result c.write.ensures.writes

pub returns-in_err-write-clause-stopped : goal.returns-in_err-write-clause-stopped
returns-in_err-write-clause-stopped g c = on_err c.from_residual-in_err-write.result _ (record {
  went_well = 1;
  stops = record { few = lit≤ tt; calls = made-then (true ∷ []) (false ∷ []) (g.D.LogDisk.drive c.args.disk.now) (g.D.LogDisk.drive c.sync.new.self) (g.D.LogDisk.drive c.write.new.self) (made-then ([]) (true ∷ []) (g.D.LogDisk.drive c.args.disk.now) (g.D.LogDisk.drive c.args.disk.now) (g.D.LogDisk.drive c.sync.new.self) (made-none (g.D.LogDisk.drive c.args.disk.now)) c.in_ok-sync.ensures.made) c.in_err-write.ensures.made };
  leaves = λ w cells more ready. record {
    unstaged = λ few. absurd (omega (arith, few));
    staged = λ many. now_staged w c.args.at cells more (g.D.LogDisk.drive c.args.disk.now) ready (g.met.D.LogDisk.keeps_laws c.args.disk.now)
        (g.D.LogDisk.drive c.sync.new.self) c.sync.result c.sync.ensures.syncs c.in_ok-sync.ensures.syncs.done
        (g.D.LogDisk.drive c.write.new.self) c.write.result c.write.ensures.writes;
  };
})

pub returns-in_err-write-clause-committed : goal.returns-in_err-write-clause-committed
returns-in_err-write-clause-committed g c = not_ok c.from_residual-in_err-write.result _ c.from_residual-in_err-write.ensures.0

pub returns-in_err-write-clause-calls : goal.returns-in_err-write-clause-calls
returns-in_err-write-clause-calls g c = not_ok c.from_residual-in_err-write.result _ c.from_residual-in_err-write.ensures.0

pub returns-in_err-write-clause-told : goal.returns-in_err-write-clause-told
returns-in_err-write-clause-told g c = c.write.ensures.writes.told ∙ ap is_some c.sync.ensures.syncs.bytes

pub returns-in_err-write-clause-cause : goal.returns-in_err-write-clause-cause
returns-in_err-write-clause-cause g c = counts-err (g.D.LogDisk.drive c.args.disk.now) (g.D.LogDisk.drive c.sync.new.self) (g.D.LogDisk.drive c.write.new.self) c.in_err-write.field-0.0 c.from_residual-in_err-write.result c.in_ok-sync.ensures.cause.same (λ all told. c.in_ok-sync.ensures.cause.file all told) c.in_err-write.ensures.cause c.from_residual-in_err-write.ensures.0

pub returns-in_err-sync-2-clause-any_moment : goal.returns-in_err-sync-2-clause-any_moment
returns-in_err-sync-2-clause-any_moment g c w cells more ready =
    done w c.args.at cells more (g.D.LogDisk.drive c.args.disk.now) ready (g.met.D.LogDisk.keeps_laws c.args.disk.now)
    (g.D.LogDisk.drive c.sync.new.self) c.sync.result c.sync.ensures.syncs c.in_ok-sync.ensures.syncs.done
    (g.D.LogDisk.drive c.write.new.self) c.write.result c.write.ensures.writes
    (g.D.LogDisk.drive c.sync-2.new.self) c.sync-2.result c.sync-2.ensures.syncs

pub returns-in_err-sync-2-clause-stopped : goal.returns-in_err-sync-2-clause-stopped
returns-in_err-sync-2-clause-stopped g c = on_err c.from_residual-in_err-sync-2.result _ (record {
  went_well = 2;
  stops = record { few = lit≤ tt; calls = made-then (true ∷ true ∷ []) (false ∷ []) (g.D.LogDisk.drive c.args.disk.now) (g.D.LogDisk.drive c.write.new.self) (g.D.LogDisk.drive c.sync-2.new.self) (made-then (true ∷ []) (true ∷ []) (g.D.LogDisk.drive c.args.disk.now) (g.D.LogDisk.drive c.sync.new.self) (g.D.LogDisk.drive c.write.new.self) (made-then ([]) (true ∷ []) (g.D.LogDisk.drive c.args.disk.now) (g.D.LogDisk.drive c.args.disk.now) (g.D.LogDisk.drive c.sync.new.self) (made-none (g.D.LogDisk.drive c.args.disk.now)) c.in_ok-sync.ensures.made) c.in_ok-write.ensures.made) c.in_err-sync-2.ensures.made };
  leaves = λ w cells more ready. record {
    unstaged = λ few. absurd (omega (arith, few));
    staged = λ many. still_staged w c.args.at cells more (g.D.LogDisk.drive c.args.disk.now) ready (g.met.D.LogDisk.keeps_laws c.args.disk.now)
        (g.D.LogDisk.drive c.sync.new.self) c.sync.result c.sync.ensures.syncs c.in_ok-sync.ensures.syncs.done
        (g.D.LogDisk.drive c.write.new.self) c.write.result c.write.ensures.writes
        (g.D.LogDisk.drive c.sync-2.new.self) c.sync-2.result c.sync-2.ensures.syncs;
  };
})

pub returns-in_err-sync-2-clause-committed : goal.returns-in_err-sync-2-clause-committed
returns-in_err-sync-2-clause-committed g c = not_ok c.from_residual-in_err-sync-2.result _ c.from_residual-in_err-sync-2.ensures.0

pub returns-in_err-sync-2-clause-calls : goal.returns-in_err-sync-2-clause-calls
returns-in_err-sync-2-clause-calls g c = not_ok c.from_residual-in_err-sync-2.result _ c.from_residual-in_err-sync-2.ensures.0

pub returns-in_err-sync-2-clause-told : goal.returns-in_err-sync-2-clause-told
returns-in_err-sync-2-clause-told g c = ap is_some c.sync-2.ensures.syncs.bytes ∙ c.write.ensures.writes.told ∙ ap is_some c.sync.ensures.syncs.bytes

pub returns-in_err-sync-2-clause-cause : goal.returns-in_err-sync-2-clause-cause
returns-in_err-sync-2-clause-cause g c = counts-err (g.D.LogDisk.drive c.args.disk.now) (g.D.LogDisk.drive c.write.new.self) (g.D.LogDisk.drive c.sync-2.new.self) c.in_err-sync-2.field-0.0 c.from_residual-in_err-sync-2.result (c.in_ok-write.ensures.cause.same ∙ c.in_ok-sync.ensures.cause.same) (λ all told. c.in_ok-sync.ensures.cause.file all (c.in_ok-write.ensures.cause.file all told)) c.in_err-sync-2.ensures.cause c.from_residual-in_err-sync-2.ensures.0

pub returns-clause-any_moment : goal.returns-clause-any_moment
returns-clause-any_moment g c w cells more ready =
    done w c.args.at cells more (g.D.LogDisk.drive c.args.disk.now) ready (g.met.D.LogDisk.keeps_laws c.args.disk.now)
    (g.D.LogDisk.drive c.sync.new.self) c.sync.result c.sync.ensures.syncs c.in_ok-sync.ensures.syncs.done
    (g.D.LogDisk.drive c.write.new.self) c.write.result c.write.ensures.writes
    (g.D.LogDisk.drive c.sync-2.new.self) c.sync-2.result c.sync-2.ensures.syncs

pub returns-clause-committed : goal.returns-clause-committed
returns-clause-committed g c w cells more ready =
    committed w c.args.at cells more (g.D.LogDisk.drive c.args.disk.now) ready (g.met.D.LogDisk.keeps_laws c.args.disk.now)
    (g.D.LogDisk.drive c.sync.new.self) c.sync.result c.sync.ensures.syncs c.in_ok-sync.ensures.syncs.done
    (g.D.LogDisk.drive c.write.new.self) c.write.result c.write.ensures.writes
    (g.D.LogDisk.drive c.sync-2.new.self) c.sync-2.result c.sync-2.ensures.syncs
    c.in_ok-write.ensures.writes.done c.in_ok-sync-2.ensures.syncs.done

pub returns-clause-calls : goal.returns-clause-calls
returns-clause-calls g c = made-then (true ∷ true ∷ []) (true ∷ []) (g.D.LogDisk.drive c.args.disk.now) (g.D.LogDisk.drive c.write.new.self) (g.D.LogDisk.drive c.sync-2.new.self) (made-then (true ∷ []) (true ∷ []) (g.D.LogDisk.drive c.args.disk.now) (g.D.LogDisk.drive c.sync.new.self) (g.D.LogDisk.drive c.write.new.self) (made-then ([]) (true ∷ []) (g.D.LogDisk.drive c.args.disk.now) (g.D.LogDisk.drive c.args.disk.now) (g.D.LogDisk.drive c.sync.new.self) (made-none (g.D.LogDisk.drive c.args.disk.now)) c.in_ok-sync.ensures.made) c.in_ok-write.ensures.made) c.in_ok-sync-2.ensures.made

pub returns-clause-stopped : goal.returns-clause-stopped
returns-clause-stopped g c = tt

pub returns-clause-told : goal.returns-clause-told
returns-clause-told g c = ap is_some c.sync-2.ensures.syncs.bytes ∙ c.write.ensures.writes.told ∙ ap is_some c.sync.ensures.syncs.bytes

pub returns-clause-cause : goal.returns-clause-cause
returns-clause-cause g c = counts-ok (g.D.LogDisk.drive c.args.disk.now) (g.D.LogDisk.drive c.write.new.self) (g.D.LogDisk.drive c.sync-2.new.self) (c.in_ok-write.ensures.cause.same ∙ c.in_ok-sync.ensures.cause.same) (λ all told. c.in_ok-sync.ensures.cause.file all (c.in_ok-write.ensures.cause.file all told)) c.in_ok-sync-2.ensures.cause
