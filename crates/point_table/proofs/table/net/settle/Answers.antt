use Rattle.std.proofs.Common.{sym, subst}
use Rattle.plain_list.specs.World.{IsWorld}
use Rattle.plain_list.proofs.Worlds.{IsWorld-without}
use Rattle.point_table.proofs.table.net.settle.Goals as goal

pub returns-in-None-clause-world : goal.returns-in-None-clause-world
returns-in-None-clause-world c = λ world. subst IsWorld (sym c.remove.ensures.gone) (IsWorld-without c.args.id c.args.members.now world)
