use Rattle.std.proofs.Common.{Bool, sym, subst, ap, ◌∙◌}
use Rattle.book_lock.specs.Pass.{Known}
use Rattle.sessions.specs.Steps.{MayGive, has_given}
use Rattle.sessions.proofs.SyncLemmas.{sync-may, sync-same, syncs-pass, was-durable}
use Rattle.sessions.proofs.store.Store.sync.Goals as goal

pub put_back-requires-clause-entries : goal.put_back-requires-clause-entries
put_back-requires-clause-entries g c =
    let sync = c.sync-answer.ensures in
    let mid = c.sync-answer.new.self in
    subst (λ (grown : Bool). MayGive c.take-book.new.pass grown mid.entries) (sym c.has_lost-grown.ensures)
    (sync-may g.D.LogDisk.drive g.I.Index.WIDTH c.take-book.result mid c.args.pass.now c.take-book.new.pass c.take-book.new.pass c.take-book.ensures c.sync-answer.result sync.ok sync.err)

pub returns : goal.returns
returns g c =
    let drive = g.D.LogDisk.drive in
    let w = g.I.Index.WIDTH in
    let sync = c.sync-answer.ensures in
    let b = c.take-book.result in
    let mid = c.sync-answer.new.self in
    let old = c.args.pass.now in
    let took = c.take-book.new.pass in
    let back = c.put_back.new.pass in
    let was = c.take-book.ensures in
    let r = c.sync-answer.result in
    let given = c.put_back.ensures ∙ ap (λ (grown : Bool). has_given took grown mid.entries) c.has_lost-grown.ensures in
    let synced = syncs-pass drive w b mid old took back was r sync.ok sync.refused sync.err given in
    record {
      synced = synced;
      durable = was-durable drive w b mid old took back was sync.book r sync.ok given;
      pass = sync-same old back r synced;
    }
