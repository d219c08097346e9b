use Rattle.std.proofs.Common.{false, ◌∙◌, ap}
use Rattle.book_lock.specs.Pass.{Known}
use Rattle.sessions.proofs.store.Store.give_all.Goals as goal

pub returns : goal.returns
returns g c = c.put_back.ensures ∙ ap (λ (k : Known). record k { holds = false }) c.note_all.ensures
