use Rattle.std.proofs.Common.{◌≡◌, ◌-◌, ◌++◌, take}
use Rattle.std.specs.List.{range_with_len}
use Rattle.sessions.proofs.store.Store.note_all.Given as goal

abbrev pub invariant-loop-at : goal.invariant-loop-at
invariant-loop-at g l =
    l.pass ≡ record l.fn.pass { seen = take l.at l.book.entries; own = l.fn.pass.own ++ range_with_len l.first (l.at - l.first) }
