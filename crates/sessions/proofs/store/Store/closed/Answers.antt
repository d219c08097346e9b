use Rattle.std.proofs.Common.{sym, ◌∙◌, ap}
use Rattle.plain_list.specs.History.{failed_cell}
use Rattle.book_lock.specs.Pass.{Known}
use Rattle.sessions.proofs.store.Store.closed.Goals as goal

pub returns-clause-closed : goal.returns-clause-closed
returns-clause-closed g c = c.closed-closed.ensures.closed ∙ ap failed_cell (c.take-book.ensures.entries ∙ sym (ap (λ (k : Known). k.seen) c.put_back.ensures))
