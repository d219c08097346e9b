use Rattle.sessions.proofs.SplitLemmas.{install-may, install-ends}
use Rattle.sessions.proofs.store.Store.install.Goals as goal

pub give-requires-clause-entries : goal.give-requires-clause-entries
give-requires-clause-entries g c =
    let p = c.args.prepared.now in
    let install = c.install-answer.ensures in
    let b = c.take-book.result in
    let old = c.args.pass.now in
    let took = c.take-book.new.pass in
    let mid = c.install-answer.new.self in
    let r = c.install-answer.result in
    let was = c.take-book.ensures in
    (install-may g.D.LogDisk.drive g.I.Index.WIDTH b mid old took was install.book was.ends p.number p.name p.base c.requires.begun r install.refused install.ok install.err)

pub returns : goal.returns
returns g c =
    let p = c.args.prepared.now in
    let install = c.install-answer.ensures in
    let b = c.take-book.result in
    let old = c.args.pass.now in
    let took = c.take-book.new.pass in
    let mid = c.install-answer.new.self in
    let r = c.install-answer.result in
    let was = c.take-book.ensures in
    install-ends g.D.LogDisk.drive g.I.Index.WIDTH b mid old took was install.book was.ends p.number p.name p.base c.requires.begun r c.give.new.pass install.refused install.ok install.err
    c.give.ensures
