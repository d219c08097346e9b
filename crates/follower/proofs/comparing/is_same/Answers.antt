use Rattle.follower.proofs.CellTests.{same_test}
use Rattle.follower.proofs.comparing.is_same.Goals as goal

pub returns : goal.returns
returns c = same_test c.args.cell.now c.args.other.now c.encode.result c.encode-2.result c.eq.result c.encode.ensures.spells c.encode-2.ensures.spells c.eq.ensures
