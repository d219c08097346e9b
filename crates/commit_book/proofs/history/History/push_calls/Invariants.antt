use Rattle.std.proofs.Common.{◌≡◌, take}
use Rattle.plain_list.specs.Batch.{batch_calls}
use Rattle.commit_book.specs.Events.{with_entries}
use Rattle.commit_book.proofs.history.History.push_calls.Given as goal

-- so far, the calls of the first operations
abbrev pub invariant-loop-i : goal.invariant-loop-i
invariant-loop-i l = l.self ≡ with_entries (batch_calls l.session l.row (take l.i l.ops)) l.fn.self
