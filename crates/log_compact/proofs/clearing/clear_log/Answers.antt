-- A log that has cells has more than 17 bytes. A log that has none stays unchanged.
use Rattle.std.proofs.Common.{ℕ, sym, ◌∙◌, subst}
use Rattle.split_log.specs.LogView.{KeepsLog}
use Rattle.log_compact.proofs.Clearings.{back-within, some-clears, none-clears}
use Rattle.log_compact.proofs.clearing.clear_log.Goals as goal

pub clear-requires : goal.clear-requires
clear-requires g c = record { within = back-within g.D.LogDisk.drive c.args.log.disk c.give_back-disk.result c.give_back-disk.ensures c.cells-cells.result (c.cells-cells.ensures.kept c.requires.whole) }

pub returns-then-cells-eq0-clause-cleared : goal.returns-then-cells-eq0-clause-cleared
returns-then-cells-eq0-clause-cleared g c =
    none-clears g.D.LogDisk.drive c.args.log.disk c.give_back-disk.result c.give_back-disk.ensures c.args.log.cells
    (subst (λ (n : ℕ). KeepsLog n (g.D.LogDisk.drive c.args.log.disk)) c.cells-cells.ensures.cells (c.cells-cells.ensures.kept c.requires.whole))
    (sym c.cells-cells.ensures.cells ∙ c.if-cells-eq0.true)

pub returns-in-Ok-clause-any_moment : goal.returns-in-Ok-clause-any_moment
returns-in-Ok-clause-any_moment g c =
    some-clears g.D.LogDisk.drive c.args.log.disk c.give_back-disk.result c.give_back-disk.ensures c.cells-cells.result (c.cells-cells.ensures.kept c.requires.whole) c.if-cells-eq0.false
    (g.D.LogDisk.drive c.clear.new.disk) c.clear.ensures.any_moment

pub returns-in-Err-clause-any_moment : goal.returns-in-Err-clause-any_moment
returns-in-Err-clause-any_moment g c =
    some-clears g.D.LogDisk.drive c.args.log.disk c.give_back-disk.result c.give_back-disk.ensures c.cells-cells.result (c.cells-cells.ensures.kept c.requires.whole) c.if-cells-eq0.false
    (g.D.LogDisk.drive c.clear.new.disk) c.clear.ensures.any_moment
