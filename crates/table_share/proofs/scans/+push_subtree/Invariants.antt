use Rattle.std.proofs.Common.{◌-◌, length}
use Rattle.table_share.proofs.scans.+push_subtree.Given as goal

abbrev pub decreases-push_subtree : goal.decreases-push_subtree
decreases-push_subtree g l = 64 - length l.name.now
