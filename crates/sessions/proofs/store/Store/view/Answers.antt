use Rattle.std.proofs.Common.{subst}
use Rattle.book_lock.specs.Pass.{Known}
use Rattle.sessions.specs.Runs.{HasLooked}
use Rattle.sessions.proofs.store.Store.view.Goals as goal

pub returns-clause-looked : goal.returns-clause-looked
returns-clause-looked g c = subst (λ (k : Known). HasLooked k c.look_at.new.pass) c.will_read.ensures c.look_at.ensures.looked
