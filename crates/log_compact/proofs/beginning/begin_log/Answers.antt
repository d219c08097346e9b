-- The log that was written has the cells that are to be found in it.
use Rattle.std.proofs.Common.{sym}
use Rattle.log_compact.specs.Fresh.{fresh_cells}
use Rattle.log_compact.proofs.Begun.{log-of, stands-found}
use Rattle.log_compact.proofs.beginning.begin_log.Goals as goal

pub adopt-requires-clause-text : goal.adopt-requires-clause-text
adopt-requires-clause-text g c xs told =
    log-of c.args.width (fresh_cells c.args.width c.args.seen.world c.args.seen.leaves) (g.D.LogDisk.drive c.args.target) (g.D.LogDisk.drive c.in-Ok.disk) c.in-Ok.ensures.ok xs told
    c.args.seen.cells (sym c.requires.fresh.finds.count)

pub returns-in-Ok-clause-stands : goal.returns-in-Ok-clause-stands
returns-in-Ok-clause-stands g c =
    rw c.adopt.ensures
    (stands-found c.args.width c.args.seen (g.D.LogDisk.drive c.args.target) (g.D.LogDisk.drive c.in-Ok.disk) c.requires.fresh c.compact.ensures.state.legal c.in-Ok.ensures.ok)
