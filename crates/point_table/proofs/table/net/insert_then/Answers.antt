use Rattle.point_table.proofs.NetSteps.{undone}
use Rattle.point_table.proofs.table.net.insert_then.Goals as goal

pub returns-then-is_err-clause-err : goal.returns-then-is_err-clause-err
returns-then-is_err-clause-err g c =
    undone c.args.new.now c.args.members.now c.insert_each.new.members c.remove_each.new.members c.requires.world c.requires.new c.insert_each.ensures.some c.remove_each.ensures

pub returns-then-not-commit-clause-err : goal.returns-then-not-commit-clause-err
returns-then-not-commit-clause-err g c =
    undone c.args.new.now c.args.members.now c.insert_each.new.members c.remove_each-then-not-commit.new.members c.requires.world c.requires.new c.insert_each.ensures.some c.remove_each-then-not-commit.ensures
