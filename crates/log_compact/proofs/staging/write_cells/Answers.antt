-- Until the first commit byte is set a crash leaves no cell. From then on it leaves none or all.
use Rattle.std.proofs.Common.{List, [], ◌∷◌, sym, ◌∙◌, subst}
use Rattle.std.proofs.lemmas.Result.{on_ok_weaker, on_err_weaker}
use Rattle.recovery.proofs.CallLemmas.{well-then, ends-then}
use Rattle.cell_format.specs.declared.cell.Cell.{Cell}
use Rattle.disk_trait.specs.Moments.{LeavesOnly}
use Rattle.split_log.specs.LogText.{IsLog, HoldsAllOrNone}
use Rattle.split_log.proofs.Calls.{counts-then}
use Rattle.split_log.proofs.Commits.{only-none, none-then}
use Rattle.log_compact.proofs.staging.write_cells.Goals as goal

pub returns-in_err-stage-clause-any_moment : goal.returns-in_err-stage-clause-any_moment
returns-in_err-stage-clause-any_moment g c w log = only-none w [] c.args.cells (g.D.LogDisk.drive c.args.disk.now) (g.D.LogDisk.drive c.stage.new.disk) (c.stage.ensures.alone w log)

pub returns-clause-any_moment : goal.returns-clause-any_moment
returns-clause-any_moment g c w log =
    subst (λ (l : List Cell). LeavesOnly (g.D.LogDisk.drive c.args.disk.now) (g.D.LogDisk.drive c.commit.new.disk) (HoldsAllOrNone w [] l)) (sym c.in-Some.ensures.steps)
    (none-then w [] (c.in-Some.first ∷ c.next.new.self) (g.D.LogDisk.drive c.args.disk.now) (g.D.LogDisk.drive c.stage.new.disk) (g.D.LogDisk.drive c.commit.new.disk)
    (c.stage.ensures.alone w log) (c.commit.ensures.any_moment w [] (c.in-Some.first ∷ c.next.new.self) (c.in_ok-stage.ensures.staged w log)))

pub returns-clause-written : goal.returns-clause-written
returns-clause-written g c = on_ok_weaker c.commit.result (λ committed w log.
    subst (λ (l : List Cell). IsLog w l (g.D.LogDisk.drive c.commit.new.disk)) (sym c.in-Some.ensures.steps)
    (committed w [] (c.in-Some.first ∷ c.next.new.self) (c.in_ok-stage.ensures.staged w log))) c.commit.ensures.committed

pub returns-clause-cause : goal.returns-clause-cause
returns-clause-cause g c =
    counts-then (g.D.LogDisk.drive c.args.disk.now) (g.D.LogDisk.drive c.stage.new.disk) (g.D.LogDisk.drive c.commit.new.disk) c.commit.result
    c.in_ok-stage.ensures.cause.same c.in_ok-stage.ensures.cause.file c.commit.ensures.cause

pub returns-clause-calls : goal.returns-clause-calls
returns-clause-calls g c = on_ok_weaker c.commit.result (λ made.
    well-then (g.D.LogDisk.drive c.args.disk.now) (g.D.LogDisk.drive c.stage.new.disk) (g.D.LogDisk.drive c.commit.new.disk) c.in_ok-stage.ensures.calls (record { count = 3; calls = made }))
    c.commit.ensures.calls

pub returns-clause-stopped : goal.returns-clause-stopped
returns-clause-stopped g c = on_err_weaker c.commit.result (λ stopped.
    ends-then (g.D.LogDisk.drive c.args.disk.now) (g.D.LogDisk.drive c.stage.new.disk) (g.D.LogDisk.drive c.commit.new.disk) c.in_ok-stage.ensures.calls
    (record { went_well = stopped.went_well; calls = stopped.stops.calls }))
    c.commit.ensures.stopped

pub returns-clause-told : goal.returns-clause-told
returns-clause-told g c = c.commit.ensures.told ∙ c.stage.ensures.told
