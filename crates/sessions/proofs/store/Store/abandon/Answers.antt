use Rattle.sessions.proofs.SplitLemmas.{abandon-may, abandon-ends}
use Rattle.sessions.proofs.store.Store.abandon.Goals as goal

pub give-requires-clause-entries : goal.give-requires-clause-entries
give-requires-clause-entries g c =
    let (name, base, has) = c.requires.begun in
    let abandon = c.abandon-answer.ensures in
    let b = c.take-book.result in
    let old = c.args.pass.now in
    let took = c.take-book.new.pass in
    let mid = c.abandon-answer.new.self in
    let r = c.abandon-answer.result in
    let was = c.take-book.ensures in
    (abandon-may g.D.LogDisk.drive g.I.Index.WIDTH b mid old took was abandon.book was.ends c.args.number name base has r abandon.refused abandon.ok abandon.err)

pub returns : goal.returns
returns g c =
    let (name, base, has) = c.requires.begun in
    let abandon = c.abandon-answer.ensures in
    let b = c.take-book.result in
    let old = c.args.pass.now in
    let took = c.take-book.new.pass in
    let mid = c.abandon-answer.new.self in
    let r = c.abandon-answer.result in
    let was = c.take-book.ensures in
    abandon-ends g.D.LogDisk.drive g.I.Index.WIDTH b mid old took was abandon.book was.ends c.args.number name base has r c.give.new.pass abandon.refused abandon.ok abandon.err
    c.give.ensures
