use Rattle.std.proofs.Common.{Ok, Err, sym, subst}
use Rattle.book_lock.specs.Pass.{Known}
use Rattle.sessions.specs.Batches.{Applied}
use Rattle.sessions.specs.declared.faults.CallFault.{CallFault}
use Rattle.sessions.proofs.BatchLemmas.{applied-err, applied-ok, applied-same, batch-fault, may-note-all}
use Rattle.sessions.proofs.store.Store.apply.Goals as goal

pub give_all-requires-clause-entries : goal.give_all-requires-clause-entries
give_all-requires-clause-entries g c =
    let update = c.update_all-answer.ensures in
    let took = c.take-book.new.pass in
    may-note-all g.D.LogDisk.drive g.I.Index.WIDTH c.take-book.result c.update_all-answer.new.self c.will_read.new.self took took c.args.session c.args.row c.args.ops.now c.take-book.ensures update.book c.update_all-answer.result update.ok
    update.err

pub call_fault-requires : goal.call_fault-requires
call_fault-requires g c =
    batch-fault g.D.LogDisk.drive g.I.Index.WIDTH c.take-book.result c.update_all-answer.new.self c.will_read.new.self c.take-book.new.pass c.give_all.new.pass c.args.session c.args.row c.args.ops.now c.take-book.ensures
    c.update_all-answer.ensures.book c.in-Err.fault c.in-Err.ensures.refused

pub returns-in-Ok : goal.returns-in-Ok
returns-in-Ok g c =
    let w = g.I.Index.WIDTH in
    let new = c.give_all.new.pass in
    let applied : Applied w c.args.session c.args.row c.args.ops.now c.args.pass.now new (Ok c.in-Ok.done) =
    subst (λ (pass : Known). Applied w c.args.session c.args.row c.args.ops.now pass new (Ok c.in-Ok.done)) c.will_read.ensures
    (applied-ok g.D.LogDisk.drive w c.take-book.result c.update_all-answer.new.self c.will_read.new.self c.take-book.new.pass new c.args.session c.args.row c.args.ops.now c.take-book.ensures c.update_all-answer.ensures.book c.in-Ok.done
    c.in-Ok.ensures.ok c.in-Ok.ensures.refused c.give_all.ensures) in
    record { applied = applied; pass = applied-same w c.args.session c.args.row c.args.ops.now c.args.pass.now new (Ok c.in-Ok.done) applied }

pub returns-in-Err : goal.returns-in-Err
returns-in-Err g c =
    let w = g.I.Index.WIDTH in
    let new = c.give_all.new.pass in
    let applied : Applied w c.args.session c.args.row c.args.ops.now c.args.pass.now new (Err c.call_fault.result) =
    subst (λ (z : Known × CallFault). Applied w c.args.session c.args.row c.args.ops.now z.0 new (Err z.1)) (λ i. (c.will_read.ensures i, sym c.call_fault.ensures i))
    (applied-err g.D.LogDisk.drive w c.take-book.result c.update_all-answer.new.self c.will_read.new.self c.take-book.new.pass new c.args.session c.args.row c.args.ops.now c.take-book.ensures c.update_all-answer.ensures.book
    c.in-Err.fault c.in-Err.ensures.err c.in-Err.ensures.refused c.give_all.ensures) in
    record { applied = applied; pass = applied-same w c.args.session c.args.row c.args.ops.now c.args.pass.now new (Err c.call_fault.result) applied }
