-- Each piece goes after the last one, and after the first commit byte.
use Rattle.std.proofs.Common.{◌≡◌, ◌+◌, ◌*◌, ◌^◌, ◌≤◌, ◌<◌, ◌∷◌, ℕ, List, length, take, ◌∙◌, ap, subst, arith, length-append, length-take}
use Rattle.cell_format.specs.declared.cell.Cell.{Cell}
use Rattle.disk_trait.specs.Drive.{Drive}
use Rattle.split_log.specs.LogText.{behind_first}
use Rattle.plain_list.proofs.MemberMaps.{on_err_anyway}
use Rattle.recovery.specs.Calls.{EndsAtFault}
use Rattle.recovery.proofs.CallLemmas.{ends-then}
use Rattle.log_compact.specs.Staging.{and_taken, IsStaging}
use Rattle.log_compact.proofs.Stages.{staging-none, staging-more, staged-all, still-alone, length-behind_first}
use Rattle.log_compact.proofs.staging.stage.Goals as goal

-- The place is at most that of the whole text.
reach : (first : Cell) (cells rest : List Cell) (at : ℕ) (start now : Drive) → IsStaging (first ∷ cells) rest at start now → length cells < 2 ^ 24 → at ≤ 17 + 32 * 2 ^ 24
reach first cells rest at start now staging few =
    omega (arith, staging.at_is, ap length staging.parts, length-append staging.sent (behind_first rest), length-behind_first first cells, few)

pub pieces-init : goal.pieces-init
pieces-init g c = staging-none (c.args.first ∷ c.args.cells) (g.D.LogDisk.drive c.args.disk.now) (g.met.D.LogDisk.keeps_laws c.args.disk.now) c.requires.empty

pub write-requires-clause-small : goal.write-requires-clause-small
write-requires-clause-small g c =
    omega (
      arith,
      reach c.args.first c.args.cells (and_taken c.pieces.held c.pieces.cells) c.pieces.at (g.D.LogDisk.drive c.args.disk.now) (g.D.LogDisk.drive c.pieces.disk) c.pieces.invariant c.requires.few,
      length-take c.fill-filled.result.0 c.fill-filled.new.piece,
      c.fill-filled.ensures.most,
    )

pub overflow_add-at-in-Some : goal.overflow_add-at-in-Some
overflow_add-at-in-Some g c =
    omega (
      arith,
      reach c.args.first c.args.cells (and_taken c.pieces.held c.pieces.cells) c.pieces.at (g.D.LogDisk.drive c.args.disk.now) (g.D.LogDisk.drive c.pieces.disk) c.pieces.invariant c.requires.few,
      c.fill-filled.ensures.most,
    )

pub returns-in_err-write-clause-alone : goal.returns-in_err-write-clause-alone
returns-in_err-write-clause-alone g c w log =
    still-alone (g.D.LogDisk.drive c.args.disk.now) (g.D.LogDisk.drive c.pieces.disk) (g.D.LogDisk.drive c.write.new.self) (g.met.D.LogDisk.keeps_laws c.pieces.disk)
    c.pieces.at (take c.fill-filled.result.0 c.fill-filled.new.piece) c.write.result (omega (arith, c.pieces.invariant.at_is)) c.write.ensures.writes w (c.pieces.invariant.alone w log)

pub pieces-preserved : goal.pieces-preserved
pieces-preserved g c =
    let all : List Cell = c.args.first ∷ c.args.cells in
    let sent : List ℕ = take c.fill-filled.result.0 c.fill-filled.new.piece in
    let left : List Cell = and_taken c.fill-filled.result.1 c.fill-filled.new.cells in
    let rest : List Cell = c.in-Some.cell ∷ c.pieces.cells in
    let here = g.D.LogDisk.drive c.args.disk.now in
    let now = g.D.LogDisk.drive c.pieces.disk in
    let next = g.D.LogDisk.drive c.write.new.self in
    let so_far : IsStaging all rest c.pieces.at here now = subst (λ held. IsStaging all (and_taken held c.pieces.cells) c.pieces.at here now) c.in-Some.is c.pieces.invariant in
    let long : length sent ≡ c.fill-filled.result.0 = omega (arith, length-take c.fill-filled.result.0 c.fill-filled.new.piece, c.fill-filled.ensures.most, c.fill-filled.array_long) in
    subst (λ n. IsStaging all left (c.pieces.at + n) here next) long
    (staging-more here now next (g.met.D.LogDisk.keeps_laws c.pieces.disk) c.pieces.at sent c.write.result (omega (arith, so_far.at_is)) c.write.ensures.writes
    c.in_ok-write.ensures.writes.done so_far.whole all rest left so_far c.fill-filled.ensures.text c.fill-filled.ensures.fits c.in_ok-write.ensures.cause.same c.in_ok-write.ensures.made c.in_ok-write.ensures.cause.file)

pub returns-clause-staged : goal.returns-clause-staged
returns-clause-staged g c w log =
    let all : List Cell = c.args.first ∷ c.args.cells in
    let here = g.D.LogDisk.drive c.args.disk.now in
    let now = g.D.LogDisk.drive c.pieces.disk in
    staged-all c.args.first c.args.cells c.pieces.at here now (g.met.D.LogDisk.keeps_laws c.pieces.disk)
    (subst (λ held. IsStaging all (and_taken held c.pieces.cells) c.pieces.at here now) c.in_default.is c.pieces.invariant) w log

pub returns-in_err-write-clause-stopped : goal.returns-in_err-write-clause-stopped
returns-in_err-write-clause-stopped g c =
    on_err_anyway c.from_residual.result (EndsAtFault (g.D.LogDisk.drive c.args.disk.now) (g.D.LogDisk.drive c.write.new.self))
    (ends-then (g.D.LogDisk.drive c.args.disk.now) (g.D.LogDisk.drive c.pieces.disk) (g.D.LogDisk.drive c.write.new.self) c.pieces.invariant.calls
    (record { went_well = 0; calls = c.in_err-write.ensures.made }))

pub returns-clause-calls : goal.returns-clause-calls
returns-clause-calls g c = c.pieces.invariant.calls

pub returns-in_err-write-clause-told : goal.returns-in_err-write-clause-told
returns-in_err-write-clause-told g c = c.write.ensures.writes.told ∙ c.pieces.invariant.told

pub returns-clause-told : goal.returns-clause-told
returns-clause-told g c = c.pieces.invariant.told
