use Rattle.std.proofs.Common.{◌≡◌, ◌∙◌, ◌≤◌, ◌++◌, ℕ, Bool, List, length, Option, Err, refl, sym, ap, subst, arith}
use Rattle.std.specs.List.{list_any}
use Rattle.plain_list.specs.World.{World}
use Rattle.plain_list.specs.Answer.{is_change}
use Rattle.plain_list.specs.Batch.{batch_calls, batch_fails}
use Rattle.plain_list.specs.History.{world_after}
use Rattle.plain_list.specs.State.{OpenSplit}
use Rattle.plain_list.specs.declared.entries.Entry.{Entry}
use Rattle.plain_list.proofs.Batches.{batch_calls-length}
use Rattle.kept_log.specs.KeptView.{KeptView}
use Rattle.kept_log.specs.Journal.{KeepsIn, LeavesAllOrNone}
use Rattle.kept_log.specs.declared.faults.AppendAllLost.TheVariants.{Disk, Memory}
use Rattle.point_table.specs.Changes.{bases_of, AreSettled}
use Rattle.point_table.specs.TableView.{TableView}
use Rattle.commit_book.specs.BatchSteps.{Plans, Adds, flagged_fails}
use Rattle.commit_book.specs.BookInside.{book_of}
use Rattle.commit_book.specs.Events.{Events}
use Rattle.commit_book.proofs.BatchCalls.{may_batch, planned, planned_any, planned_answers, planned_changes, planned_length, can_add, made, missed, adds-memory}
use Rattle.commit_book.proofs.BatchLemmas.{flagged_fails-lost}
use Rattle.commit_book.proofs.BatchStates.{inside-calls, inside-fails}
use Rattle.kept_log.proofs.InJournal.{leaves-still}
use Rattle.commit_book.proofs.RefusalLemmas.{passed}
use Rattle.commit_book.proofs.book.Book.update_all.Goals as goal

pub returns-in_err-check_batch-clause-any_moment : goal.returns-in_err-check_batch-clause-any_moment
returns-in_err-check_batch-clause-any_moment g c =
    rw (← c.self.view_is)
    (leaves-still g.D.LogDisk.drive g.I.Index.WIDTH c.self.inside.opening c.self.inside.history.entries _ c.self.inside.journal g.met.D.LogDisk.keeps_laws c.self.invariant.on_log)

pub returns-in_err-draft-clause-any_moment : goal.returns-in_err-draft-clause-any_moment
returns-in_err-draft-clause-any_moment g c =
    rw (← c.self.view_is)
    (leaves-still g.D.LogDisk.drive g.I.Index.WIDTH c.self.inside.opening c.self.inside.history.entries _ c.self.inside.journal g.met.D.LogDisk.keeps_laws c.self.invariant.on_log)

pub returns-in_err-reserve-clause-any_moment : goal.returns-in_err-reserve-clause-any_moment
returns-in_err-reserve-clause-any_moment g c =
    rw (← c.self.view_is)
    (leaves-still g.D.LogDisk.drive g.I.Index.WIDTH c.self.inside.opening c.self.inside.history.entries _ c.self.inside.journal g.met.D.LogDisk.keeps_laws c.self.invariant.on_log)

pub publish-requires-clause-can : goal.publish-requires-clause-can
publish-requires-clause-can g c = λ some.
    let w = g.I.Index.WIDTH in
    let drive = g.D.LogDisk.drive in
    let b = c.self.inside in
    let o = b.opening in
    let ops = c.args.ops.now in
    let p = c.in_ok-draft.field-0 in
    let may = may_batch (book_of b) ops (passed _ _ (rw (← c.self.view_is) at c.in_ok-check_batch.ensures)) in
    let plan : Plans b.splits.splits b.table ops p.draft p.changes.items c.deref.result.now = planned b.splits.splits c.deref.result.now c.in_ok-draft.ensures c.as_slice.ensures c.deref.ensures.value in
    let change = list_any is_change p.draft.answers in
    can_add drive w o b c.self.invariant may.going b.splits.splits ops p.draft p.changes.items c.deref.result.now plan may.room

pub invariant_of-self-in-Ok : goal.invariant_of-self-in-Ok
invariant_of-self-in-Ok g c =
    let w = g.I.Index.WIDTH in
    let drive = g.D.LogDisk.drive in
    let b = c.self.inside in
    let o = b.opening in
    let ops = c.args.ops.now in
    let p = c.in_ok-draft.field-0 in
    let may = may_batch (book_of b) ops (passed _ _ (rw (← c.self.view_is) at c.in_ok-check_batch.ensures)) in
    let plan : Plans b.splits.splits b.table ops p.draft p.changes.items c.deref.result.now = planned b.splits.splits c.deref.result.now c.in_ok-draft.ensures c.as_slice.ensures c.deref.ensures.value in
    let change = list_any is_change p.draft.answers in
    let it =
    made drive w o b c.self.invariant may.going b.splits.splits ops p.draft p.changes.items c.deref.result.now plan g.met.D.LogDisk.keeps_laws c.args.session c.args.row change c.publish.new.journal c.in-Ok.answers
    (sym (planned_any drive w o b c.self.invariant may.going b.splits.splits ops p.draft p.changes.items c.deref.result.now plan)) c.in-Ok.ensures.adds in
    let entries : c.push_calls.new.self.entries ≡ b.history.entries ++ batch_calls c.args.session c.args.row ops =
    ap (λ (v : Events). v.entries) c.push_calls.ensures ∙ ap (λ (v : Events). v.entries ++ batch_calls c.args.session c.args.row ops) c.in_ok-reserve.ensures.ok in
    let room : length b.splits.splits ≤ c.push_calls.new.self.room =
    omega (arith, ap (λ (v : Events). v.room) c.push_calls.ensures, ap (λ (v : Events). v.room) c.in_ok-reserve.ensures.ok, batch_calls-length c.args.session c.args.row ops, c.len.ensures) in
    inside-calls drive w o b _ c.self.invariant may.going (subst (λ (h : List Entry). KeepsIn drive w o h c.publish.new.journal) (sym entries) it.keeps) it.since
    (ap (λ (v : Events). v.kept) c.push_calls.ensures ∙ ap (λ (v : Events). v.kept) c.in_ok-reserve.ensures.ok) c.args.session c.args.row ops may.few entries room
    (ap (λ (t : TableView). t.world) c.in-Ok.ensures.ok.0 ∙ plan.drafts.changes.world)
    (ap (λ (t : TableView). bases_of b.splits.splits t.leaves) c.in-Ok.ensures.ok.0 ∙ plan.drafts.changes.bases) refl

pub returns-in-Ok-clause-ok : goal.returns-in-Ok-clause-ok
returns-in-Ok-clause-ok g c =
    let w = g.I.Index.WIDTH in
    let drive = g.D.LogDisk.drive in
    let b = c.self.inside in
    let o = b.opening in
    let ops = c.args.ops.now in
    let p = c.in_ok-draft.field-0 in
    let may = may_batch (book_of b) ops (passed _ _ (rw (← c.self.view_is) at c.in_ok-check_batch.ensures)) in
    let plan : Plans b.splits.splits b.table ops p.draft p.changes.items c.deref.result.now = planned b.splits.splits c.deref.result.now c.in_ok-draft.ensures c.as_slice.ensures c.deref.ensures.value in
    let change = list_any is_change p.draft.answers in
    let entries : c.push_calls.new.self.entries ≡ b.history.entries ++ batch_calls c.args.session c.args.row ops =
    ap (λ (v : Events). v.entries) c.push_calls.ensures ∙ ap (λ (v : Events). v.entries ++ batch_calls c.args.session c.args.row ops) c.in_ok-reserve.ensures.ok in
    rw (← c.self.view_is) (record {
      entries = entries;
      place_is = c.calls.ensures;
      answers_are = c.in-Ok.ensures.ok.1 ∙ planned_answers drive w o b c.self.invariant may.going b.splits.splits ops p.draft p.changes.items c.deref.result.now plan;
      full_is = c.full.ensures.full;
      settled = subst (λ (os : List OpenSplit). AreSettled os b.table.leaves c.publish.new.table.leaves) c.self.invariant.splits
          (subst (λ (t : TableView). AreSettled b.splits.splits b.table.leaves t.leaves) (sym c.in-Ok.ensures.ok.0) plan.drafts.changes.settled);
    })

pub returns-in-Ok-clause-any_moment : goal.returns-in-Ok-clause-any_moment
returns-in-Ok-clause-any_moment g c =
    let w = g.I.Index.WIDTH in
    let drive = g.D.LogDisk.drive in
    let b = c.self.inside in
    let o = b.opening in
    let ops = c.args.ops.now in
    let p = c.in_ok-draft.field-0 in
    let may = may_batch (book_of b) ops (passed _ _ (rw (← c.self.view_is) at c.in_ok-check_batch.ensures)) in
    let plan : Plans b.splits.splits b.table ops p.draft p.changes.items c.deref.result.now = planned b.splits.splits c.deref.result.now c.in_ok-draft.ensures c.as_slice.ensures c.deref.ensures.value in
    let change = list_any is_change p.draft.answers in
    let it =
    made drive w o b c.self.invariant may.going b.splits.splits ops p.draft p.changes.items c.deref.result.now plan g.met.D.LogDisk.keeps_laws c.args.session c.args.row change c.publish.new.journal c.in-Ok.answers
    (sym (planned_any drive w o b c.self.invariant may.going b.splits.splits ops p.draft p.changes.items c.deref.result.now plan)) c.in-Ok.ensures.adds in
    rw (← c.self.view_is) (λ none. it.moments)

pub push_fails-requires-clause-lengths : goal.push_fails-requires-clause-lengths
push_fails-requires-clause-lengths g c =
    let w = g.I.Index.WIDTH in
    let drive = g.D.LogDisk.drive in
    let b = c.self.inside in
    let o = b.opening in
    let ops = c.args.ops.now in
    let p = c.in_ok-draft.field-0 in
    let may = may_batch (book_of b) ops (passed _ _ (rw (← c.self.view_is) at c.in_ok-check_batch.ensures)) in
    let plan : Plans b.splits.splits b.table ops p.draft p.changes.items c.deref.result.now = planned b.splits.splits c.deref.result.now c.in_ok-draft.ensures c.as_slice.ensures c.deref.ensures.value in
    let change = list_any is_change p.draft.answers in
    ap length c.deref-in-Err-Disk.ensures.value ∙ planned_length drive w o b c.self.invariant may.going b.splits.splits ops p.draft p.changes.items c.deref.result.now plan

pub invariant_of-self-in-Err-Disk : goal.invariant_of-self-in-Err-Disk
invariant_of-self-in-Err-Disk g c =
    let w = g.I.Index.WIDTH in
    let drive = g.D.LogDisk.drive in
    let b = c.self.inside in
    let o = b.opening in
    let ops = c.args.ops.now in
    let p = c.in_ok-draft.field-0 in
    let may = may_batch (book_of b) ops (passed _ _ (rw (← c.self.view_is) at c.in_ok-check_batch.ensures)) in
    let plan : Plans b.splits.splits b.table ops p.draft p.changes.items c.deref.result.now = planned b.splits.splits c.deref.result.now c.in_ok-draft.ensures c.as_slice.ensures c.deref.ensures.value in
    let change = list_any is_change p.draft.answers in
    let cell : ℕ = c.in-Err-Disk.cell in
    let adds : Adds drive c.deref.result.now change b.journal c.publish.new.journal (Err (Disk cell)) = rw c.in-Err-Disk.field-0-is at c.in-Err-Disk.ensures.adds in
    let it =
    missed drive w o b c.self.invariant may.going b.splits.splits ops p.draft p.changes.items c.deref.result.now plan _ c.args.session c.args.row cell change c.publish.new.journal
    (sym (planned_any drive w o b c.self.invariant may.going b.splits.splits ops p.draft p.changes.items c.deref.result.now plan)) adds in
    let before : World = world_after o.world b.history.entries in
    let fails : flagged_fails cell c.args.session c.args.row c.deref-in-Err-Disk.result.now ops ≡ batch_fails cell before c.args.session c.args.row ops =
    ap (λ (bs : List Bool). flagged_fails cell c.args.session c.args.row bs ops) (c.deref-in-Err-Disk.ensures.value ∙ planned_changes drive w o b c.self.invariant may.going b.splits.splits ops p.draft p.changes.items c.deref.result.now plan)
    ∙ flagged_fails-lost cell before c.args.session c.args.row ops in
    let entries : c.push_fails.new.self.entries ≡ b.history.entries ++ batch_fails cell before c.args.session c.args.row ops =
    ap (λ (v : Events). v.entries) c.push_fails.ensures ∙ (λ i. (c.in_ok-reserve.ensures.ok i).entries ++ fails i) in
    inside-fails drive w o b _ c.self.invariant may.going (subst (λ (h : List Entry). KeepsIn drive w o h c.publish.new.journal) (sym entries) it.keeps) it.since
    (ap (λ (v : Events). v.kept) c.push_fails.ensures ∙ ap (λ (v : Events). v.kept) c.in_ok-reserve.ensures.ok) c.args.session c.args.row ops may.few cell before it.change entries
    c.in-Err-Disk.ensures.err refl

pub returns-in-Err-Disk-clause-err : goal.returns-in-Err-Disk-clause-err
returns-in-Err-Disk-clause-err g c =
    let w = g.I.Index.WIDTH in
    let drive = g.D.LogDisk.drive in
    let b = c.self.inside in
    let o = b.opening in
    let ops = c.args.ops.now in
    let p = c.in_ok-draft.field-0 in
    let may = may_batch (book_of b) ops (passed _ _ (rw (← c.self.view_is) at c.in_ok-check_batch.ensures)) in
    let plan : Plans b.splits.splits b.table ops p.draft p.changes.items c.deref.result.now = planned b.splits.splits c.deref.result.now c.in_ok-draft.ensures c.as_slice.ensures c.deref.ensures.value in
    let change = list_any is_change p.draft.answers in
    let cell : ℕ = c.in-Err-Disk.cell in
    let adds : Adds drive c.deref.result.now change b.journal c.publish.new.journal (Err (Disk cell)) = rw c.in-Err-Disk.field-0-is at c.in-Err-Disk.ensures.adds in
    let it =
    missed drive w o b c.self.invariant may.going b.splits.splits ops p.draft p.changes.items c.deref.result.now plan _ c.args.session c.args.row cell change c.publish.new.journal
    (sym (planned_any drive w o b c.self.invariant may.going b.splits.splits ops p.draft p.changes.items c.deref.result.now plan)) adds in
    let before : World = world_after o.world b.history.entries in
    let fails : flagged_fails cell c.args.session c.args.row c.deref-in-Err-Disk.result.now ops ≡ batch_fails cell before c.args.session c.args.row ops =
    ap (λ (bs : List Bool). flagged_fails cell c.args.session c.args.row bs ops) (c.deref-in-Err-Disk.ensures.value ∙ planned_changes drive w o b c.self.invariant may.going b.splits.splits ops p.draft p.changes.items c.deref.result.now plan)
    ∙ flagged_fails-lost cell before c.args.session c.args.row ops in
    let entries : c.push_fails.new.self.entries ≡ b.history.entries ++ batch_fails cell before c.args.session c.args.row ops =
    ap (λ (v : Events). v.entries) c.push_fails.ensures ∙ (λ i. (c.in_ok-reserve.ensures.ok i).entries ++ fails i) in
    rw (← c.self.view_is) (record {
      entries = entries;
      cell_is = it.cell_is;
      leaves = ap (λ (t : TableView). t.leaves) c.in-Err-Disk.ensures.err;
      rose = it.rose;
      change = it.change;
    })

pub returns-in-Err-Disk-clause-any_moment : goal.returns-in-Err-Disk-clause-any_moment
returns-in-Err-Disk-clause-any_moment g c =
    let w = g.I.Index.WIDTH in
    let drive = g.D.LogDisk.drive in
    let b = c.self.inside in
    let o = b.opening in
    let ops = c.args.ops.now in
    let p = c.in_ok-draft.field-0 in
    let may = may_batch (book_of b) ops (passed _ _ (rw (← c.self.view_is) at c.in_ok-check_batch.ensures)) in
    let plan : Plans b.splits.splits b.table ops p.draft p.changes.items c.deref.result.now = planned b.splits.splits c.deref.result.now c.in_ok-draft.ensures c.as_slice.ensures c.deref.ensures.value in
    let change = list_any is_change p.draft.answers in
    let cell : ℕ = c.in-Err-Disk.cell in
    let adds : Adds drive c.deref.result.now change b.journal c.publish.new.journal (Err (Disk cell)) = rw c.in-Err-Disk.field-0-is at c.in-Err-Disk.ensures.adds in
    let it =
    missed drive w o b c.self.invariant may.going b.splits.splits ops p.draft p.changes.items c.deref.result.now plan _ c.args.session c.args.row cell change c.publish.new.journal
    (sym (planned_any drive w o b c.self.invariant may.going b.splits.splits ops p.draft p.changes.items c.deref.result.now plan)) adds in
    rw (← c.self.view_is) (λ none. it.moments)

pub returns-clause-any_moment : goal.returns-clause-any_moment
returns-clause-any_moment g c =
    let w = g.I.Index.WIDTH in
    let drive = g.D.LogDisk.drive in
    let b = c.self.inside in
    let o = b.opening in
    let change = list_any is_change c.in_ok-draft.field-0.draft.answers in
    let adds : Adds drive c.deref.result.now change b.journal c.publish.new.journal (Err Memory) = rw c.in-Err-Memory.field-0-is at c.in-Err-Memory.ensures.adds in
    let same : c.publish.new.journal ≡ b.journal = adds-memory _ drive c.deref.result.now change b.journal c.publish.new.journal adds in
    rw (← c.self.view_is) (λ none.
    subst (λ (l : Option (KeptView _)). LeavesAllOrNone drive w o b.history.entries (batch_calls c.args.session c.args.row c.args.ops.now) b.journal l) (sym same)
    (leaves-still drive w o b.history.entries (batch_calls c.args.session c.args.row c.args.ops.now) b.journal g.met.D.LogDisk.keeps_laws c.self.invariant.on_log none))
