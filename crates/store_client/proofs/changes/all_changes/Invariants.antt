use Rattle.std.proofs.Common.{◌≡◌, ◌+◌, ◌++◌, drop, length}
use Rattle.store_client.specs.Changes.{changes_in}
use Rattle.store_client.proofs.changes.all_changes.Given as goal

abbrev pub invariant-loop-op : goal.invariant-loop-op
invariant-loop-op l = record {
  counted : l.place ≡ l.initial.place + length l.yielded;
  so_far : l.changes.items ++ changes_in l.place (drop (length l.yielded) l.ops) (drop (length l.yielded) l.answers) ≡ changes_in l.initial.place l.ops l.answers;
}
