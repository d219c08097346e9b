use Rattle.plain_list.specs.declared.entries.Entry.TheVariants.{Call}
use Rattle.plain_list.specs.declared.entries.Lost.TheVariants as lost
use Rattle.commit_book.specs.declared.book.Done.{Done}
use Rattle.commit_book.specs.Refusals.{IsMemoryOrDisk}
use Rattle.book_lock.specs.Ends.{MayNote}
use Rattle.kept_log.specs.Journal.{cells_in}
use Rattle.sessions.specs.Calls.{call_cause}
use Rattle.sessions.proofs.StepLemmas.{call-may, may-give, says-all}
use Rattle.sessions.proofs.CallLemmas.{update-step, updated}
use Rattle.sessions.proofs.SyncLemmas.{stood-step}
use Rattle.sessions.proofs.store.Store.update.Goals as goal

pub give-requires-clause-entries : goal.give-requires-clause-entries
give-requires-clause-entries g c =
    let update = c.update-answer.ensures in
    let b = c.take-book.result in
    let old = c.args.pass.now in
    let took = c.take-book.new.pass in
    let mid = c.update-answer.new.self in
    let op = c.args.request.now.op in
    let was = c.take-book.ensures in
    (may-give g.D.LogDisk.drive IsMemoryOrDisk (call_cause old.origin op (cells_in b.log) b.entries) (λ (d : Done). Call c.args.request.now.session c.args.request.now.row op) (lost.Call c.args.request.now.session c.args.request.now.row op) b mid took was.entries c.update-answer.result
    (update-step g.D.LogDisk.drive g.I.Index.WIDTH b mid old took took c.args.request.now.session c.args.request.now.row op was update.book c.update-answer.result update.ok update.refused update.err)
    (says-all (λ (d : Done). MayNote took.seen took.own (Call c.args.request.now.session c.args.request.now.row op)) (λ (d : Done). call-may c.args.request.now.session c.args.request.now.row op took.seen took.own) c.update-answer.result))

pub returns-clause-updates : goal.returns-clause-updates
returns-clause-updates g c =
    let update = c.update-answer.ensures in
    let mid = c.update-answer.new.self in
    let took = c.take-book.new.pass in
    let was = c.take-book.ensures in
    updated g.D.LogDisk.drive g.I.Index.WIDTH c.take-book.result mid c.args.pass.now took c.give.new.pass c.args.request.now.session c.args.request.now.row c.args.request.now.op was update.book c.update-answer.result c.requires.update update.ok update.refused update.err
    c.give.ensures

pub returns-clause-stood : goal.returns-clause-stood
returns-clause-stood g c =
    let update = c.update-answer.ensures in
    let b = c.take-book.result in
    let old = c.args.pass.now in
    let took = c.take-book.new.pass in
    let mid = c.update-answer.new.self in
    let op = c.args.request.now.op in
    let was = c.take-book.ensures in
    stood-step g.D.LogDisk.drive g.I.Index.WIDTH IsMemoryOrDisk (call_cause old.origin op (cells_in b.log) b.entries) (λ (d : Done). Call c.args.request.now.session c.args.request.now.row op) (lost.Call c.args.request.now.session c.args.request.now.row op) b mid old took c.give.new.pass was update.book c.update-answer.result
    (update-step g.D.LogDisk.drive g.I.Index.WIDTH b mid old took took c.args.request.now.session c.args.request.now.row op was update.book c.update-answer.result update.ok update.refused update.err)
    c.give.ensures
