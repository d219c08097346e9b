use Rattle.std.proofs.Common.{◌-◌, ◌/◌, arith}
use Rattle.knn_query.proofs.Reaches.{square-sum}
use Rattle.knn_query.proofs.reach.longer.Goals as goal

pub returns-then-a-b : goal.returns-then-a-b
returns-then-a-b c less =
    omega (arith, square-sum c.args.b c.args.a (c.args.a - c.args.a / 2) c.saturating_add.result (omega (arith, c.if-a-b.true)) (omega arith) (omega (arith, c.saturating_add.ensures, less)))

pub returns-else-a-b : goal.returns-else-a-b
returns-else-a-b c less =
    square-sum c.args.a c.args.b (c.args.b - c.args.b / 2) c.saturating_add-else-a-b.result (omega (arith, c.if-a-b.false)) (omega arith) (omega (arith, c.saturating_add-else-a-b.ensures, less))
