use Rattle.sessions.proofs.SettleLemmas.{next-fault}
use Rattle.sessions.proofs.store.Store.split_next.Goals as goal

pub returns-clause-fault : goal.returns-clause-fault
returns-clause-fault g c =
    next-fault g.I.Index.WIDTH c.args.name.now c.args.pass.now c.split_at.new.pass c.split_at.result c.requires.all c.requires.unclosed c.requires.full c.split_at.ensures.ends
