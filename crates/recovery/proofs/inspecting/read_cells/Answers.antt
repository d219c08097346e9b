use Rattle.recovery.proofs.PieceLemmas.{passed_on}
use Rattle.recovery.proofs.WalkLemmas.{way_fails}
use Rattle.recovery.proofs.inspecting.read_cells.Goals as goal

pub returns-in_err-_cell-clause-err : goal.returns-in_err-_cell-clause-err
returns-in_err-_cell-clause-err g c =
    let drive = g.D.LogDisk.drive in
    passed_on c.from_residual.result _ _ c.from_residual.ensures.1
    (way_fails (drive c.args.disk.now) (drive c.loop-cell.disk) (drive c.advance.new.disk) c.args.reading.now c.loop-cell.reading c.advance.new.self c.loop-cell.invariant c.advance.ensures.reads.stays c.advance.ensures.reads.file
    c.in_err-_cell.field-0.0 c.in_err-_cell.ensures.advances)
