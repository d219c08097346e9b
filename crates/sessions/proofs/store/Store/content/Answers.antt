use Rattle.std.proofs.Common.{subst}
use Rattle.plain_list.specs.declared.entries.Entry.{Entry}
use Rattle.std.specs.Prelude.{List}
use Rattle.commit_book.specs.Refusals.{IsMemory, IsRefusedBy, closed_refusal}
use Rattle.sessions.proofs.Contents.{contents, entries-seen}
use Rattle.sessions.proofs.store.Store.content.Goals as goal

pub returns-clause-content : goal.returns-clause-content
returns-clause-content g c =
    let e = c.content-content.ensures in
    contents g.D.LogDisk.drive g.I.Index.WIDTH c.take-book.result c.args.pass.now c.take-book.new.pass c.put_back.new.pass e.book c.take-book.ensures c.put_back.ensures c.content-content.result
    e.world e.leaves e.comes e.is_world

pub returns-clause-refused : goal.returns-clause-refused
returns-clause-refused g c =
    let e = c.content-content.ensures in
    subst (λ (h : List Entry). IsRefusedBy IsMemory (closed_refusal h) c.content-content.result)
    (entries-seen g.D.LogDisk.drive g.I.Index.WIDTH c.take-book.result c.args.pass.now c.take-book.new.pass c.put_back.new.pass e.book c.take-book.ensures c.put_back.ensures) e.refused
