use Rattle.std.proofs.Common.{◌≡◌, take}
use Rattle.commit_book.specs.BatchSteps.{flagged_fails}
use Rattle.commit_book.specs.Events.{with_entries}
use Rattle.commit_book.proofs.history.History.push_fails.Given as goal

-- so far, the failed appends of the first operations
abbrev pub invariant-loop-i : goal.invariant-loop-i
invariant-loop-i l = l.self ≡ with_entries (flagged_fails l.cell l.session l.row (take l.i l.changes) (take l.i l.ops)) l.fn.self
