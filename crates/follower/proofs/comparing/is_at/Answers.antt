use Rattle.follower.proofs.CellTests.{at_test}
use Rattle.follower.proofs.comparing.is_at.Goals as goal

pub returns-then-number-cells : goal.returns-then-number-cells
returns-then-number-cells c =
    at_test c.args.cells.now c.args.number c.index-cells-number.result c.args.cell.now c.is_same.result c.if-number-cells.true c.index-cells-number.is c.is_same.ensures
