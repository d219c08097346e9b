use Rattle.std.proofs.Common.{◌∙◌, ap}
use Rattle.book_lock.specs.Pass.{Known}
use Rattle.plain_list.specs.declared.entries.Entry.TheVariants.{Call}
use Rattle.plain_list.specs.declared.entries.Lost.TheVariants as lost
use Rattle.commit_book.specs.declared.book.Snapshot.{Snapshot}
use Rattle.commit_book.specs.Refusals.{IsMemory, call_refusal}
use Rattle.book_lock.specs.Ends.{MayNote}
use Rattle.sessions.specs.Steps.{has_entry}
use Rattle.sessions.proofs.StepLemmas.{call-may, given-free, may-give, says-all}
use Rattle.sessions.proofs.CallLemmas.{look-step, looked}
use Rattle.sessions.proofs.SyncLemmas.{stood-step}
use Rattle.sessions.proofs.store.Store.look.Goals as goal

pub give-requires-clause-entries : goal.give-requires-clause-entries
give-requires-clause-entries g c =
    let snapshot = c.snapshot-answer.ensures in
    let b = c.take-book.result in
    let old = c.args.pass.now in
    let took = c.take-book.new.pass in
    let mid = c.snapshot-answer.new.self in
    let op = c.args.request.now.op in
    let was = c.take-book.ensures in
    (may-give g.D.LogDisk.drive IsMemory (call_refusal b.kept b.entries) (λ (s : Snapshot g.row.I.Denot g.row.I-Place.Denot). Call c.args.request.now.session c.args.request.now.row op) (lost.Call c.args.request.now.session c.args.request.now.row op) b mid took was.entries c.snapshot-answer.result
    (look-step g.I.Index.leaves g.D.LogDisk.drive g.I.Index.WIDTH b mid old took took c.args.request.now.session c.args.request.now.row op was snapshot.book c.snapshot-answer.result snapshot.ok snapshot.refused snapshot.err)
    (says-all (λ (s : Snapshot g.row.I.Denot g.row.I-Place.Denot). MayNote took.seen took.own (Call c.args.request.now.session c.args.request.now.row op)) (λ (s : Snapshot g.row.I.Denot g.row.I-Place.Denot). call-may c.args.request.now.session c.args.request.now.row op took.seen took.own) c.snapshot-answer.result))

pub returns-clause-looks : goal.returns-clause-looks
returns-clause-looks g c =
    let snapshot = c.snapshot-answer.ensures in
    let mid = c.snapshot-answer.new.self in
    let took = c.take-book.new.pass in
    let was = c.take-book.ensures in
    looked g.I.Index.leaves g.D.LogDisk.drive g.I.Index.WIDTH c.take-book.result mid c.args.pass.now took c.give.new.pass c.args.request.now.session c.args.request.now.row c.args.request.now.op was snapshot.book
    c.snapshot-answer.result snapshot.ok snapshot.index snapshot.world snapshot.refused snapshot.err c.give.ensures

pub returns-clause-free : goal.returns-clause-free
returns-clause-free g c = ap (λ (k : Known). k.holds) c.give.ensures ∙ given-free c.take-book.new.pass (has_entry c.snapshot-answer.result) c.snapshot-answer.new.self.entries

pub returns-clause-stood : goal.returns-clause-stood
returns-clause-stood g c =
    let snapshot = c.snapshot-answer.ensures in
    let b = c.take-book.result in
    let old = c.args.pass.now in
    let took = c.take-book.new.pass in
    let mid = c.snapshot-answer.new.self in
    let op = c.args.request.now.op in
    let was = c.take-book.ensures in
    stood-step g.D.LogDisk.drive g.I.Index.WIDTH IsMemory (call_refusal b.kept b.entries) (λ (s : Snapshot g.row.I.Denot g.row.I-Place.Denot). Call c.args.request.now.session c.args.request.now.row op) (lost.Call c.args.request.now.session c.args.request.now.row op) b mid old took c.give.new.pass was snapshot.book c.snapshot-answer.result
    (look-step g.I.Index.leaves g.D.LogDisk.drive g.I.Index.WIDTH b mid old took took c.args.request.now.session c.args.request.now.row op was snapshot.book c.snapshot-answer.result snapshot.ok snapshot.refused snapshot.err)
    c.give.ensures
