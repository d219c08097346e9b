use Rattle.plain_list.proofs.ToldChanges.{is_some-change_of, after_of-no_change}
use Rattle.plain_list.proofs.laws.change_says_whether_the_world_changes.Goals as goal

pub returns : goal.returns
returns c = record {
  told = is_some-change_of c.args.place c.args.world.now c.args.op.now;
  stays = after_of-no_change c.args.place c.args.world.now c.args.op.now;
}
