-- A log of no cells is created, and then all cells are written over it.
use Rattle.std.proofs.Common.{List, subst}
use Rattle.cell_format.specs.declared.cell.Cell.{Cell}
use Rattle.log_compact.specs.Compacting.{IsCompacted, KeepsOnWay}
use Rattle.log_compact.proofs.OnWay.{kept-on_way, compacted, failed-after, made-empty}
use Rattle.log_compact.proofs.compacting.compact.Goals as goal

pub write_cells-requires-clause-empty : goal.write_cells-requires-clause-empty
write_cells-requires-clause-empty g c = made-empty c.args.width (g.D.LogDisk.drive c.args.target) (g.D.LogDisk.drive c.in-Ok.disk) c.in-Ok.ensures.made

pub returns-in-Ok-write_cells-clause-ok : goal.returns-in-Ok-write_cells-clause-ok
returns-in-Ok-write_cells-clause-ok g c =
    subst (λ (cells : List Cell). IsCompacted c.args.width cells (g.D.LogDisk.drive c.args.target) (g.D.LogDisk.drive c.write_cells.new.disk)) c.of-cells.ensures.cells
    (compacted c.args.width c.of-cells.result c.of-cells.ensures.state.legal (g.D.LogDisk.drive c.args.target) (g.D.LogDisk.drive c.in-Ok.disk) (g.D.LogDisk.drive c.write_cells.new.disk)
    c.in-Ok.ensures.made (c.in-Ok-write_cells.ensures.written c.args.width) c.write_cells.ensures.told c.in-Ok-write_cells.ensures.cause.same c.in-Ok-write_cells.ensures.calls)

pub returns-in-Ok-write_cells-clause-any_moment : goal.returns-in-Ok-write_cells-clause-any_moment
returns-in-Ok-write_cells-clause-any_moment g c =
    subst (λ (cells : List Cell). KeepsOnWay c.args.width cells (g.D.LogDisk.drive c.args.target) (g.D.LogDisk.drive c.write_cells.new.disk)) c.of-cells.ensures.cells
    (kept-on_way c.args.width c.of-cells.result c.of-cells.ensures.state.legal (g.D.LogDisk.drive c.args.target) (g.D.LogDisk.drive c.in-Ok.disk) (g.D.LogDisk.drive c.write_cells.new.disk)
    c.in-Ok.ensures.made c.in-Ok.ensures.small (c.write_cells.ensures.any_moment c.args.width) c.write_cells.ensures.cause.later c.write_cells.ensures.cause.file)

pub returns-in-Err-write_cells-clause-any_moment : goal.returns-in-Err-write_cells-clause-any_moment
returns-in-Err-write_cells-clause-any_moment g c =
    subst (λ (cells : List Cell). KeepsOnWay c.args.width cells (g.D.LogDisk.drive c.args.target) (g.D.LogDisk.drive c.write_cells.new.disk)) c.of-cells.ensures.cells
    (kept-on_way c.args.width c.of-cells.result c.of-cells.ensures.state.legal (g.D.LogDisk.drive c.args.target) (g.D.LogDisk.drive c.in-Ok.disk) (g.D.LogDisk.drive c.write_cells.new.disk)
    c.in-Ok.ensures.made c.in-Ok.ensures.small (c.write_cells.ensures.any_moment c.args.width) c.write_cells.ensures.cause.later c.write_cells.ensures.cause.file)

pub returns-in-Err-write_cells-clause-refused : goal.returns-in-Err-write_cells-clause-refused
returns-in-Err-write_cells-clause-refused g c =
    failed-after c.args.width c.of-cells.result c.of-cells.ensures.state.legal (g.D.LogDisk.drive c.args.target) (g.D.LogDisk.drive c.in-Ok.disk) (g.D.LogDisk.drive c.write_cells.new.disk)
    c.in-Ok.ensures.made c.write_cells.ensures.told c.in-Err-write_cells.ensures.cause.failed c.in-Err-write_cells.ensures.stopped
