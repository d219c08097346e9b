use Rattle.std.proofs.Common.{◌≡◌, ◌+◌, true, List, length, inl, refl, sym, ap, subst, ◌∙◌, arith}
use Rattle.plain_list.specs.declared.ops.Answer.{Answer}
use Rattle.plain_list.specs.declared.entries.Entry.TheVariants.{Call}
use Rattle.plain_list.specs.declared.entries.Lost.TheVariants as lost
use Rattle.plain_list.specs.World.{World}
use Rattle.plain_list.specs.Answer.{answer_of, is_change}
use Rattle.plain_list.specs.History.{world_after}
use Rattle.plain_list.specs.State.{OpenSplit}
use Rattle.point_table.specs.Changes.{AreSettled}
use Rattle.plain_list.proofs.Histories.{state_after-world, has_failed-none}
use Rattle.kept_log.proofs.InJournal.{leaves-quiet}
use Rattle.point_table.specs.TableView.{TableView}
use Rattle.commit_book.specs.BookInside.{book_of}
use Rattle.commit_book.specs.Events.{Events}
use Rattle.commit_book.specs.Refusals.{IsMemoryOrDisk}
use Rattle.commit_book.specs.Steps.{Takes, Loses}
use Rattle.commit_book.specs.declared.steps.Step.{Step}
use Rattle.commit_book.proofs.BookStates.{inside-call, steps_on}
use Rattle.commit_book.proofs.Limits.{most-le}
use Rattle.commit_book.proofs.RefusalLemmas.{passed}
use Rattle.commit_book.proofs.SplitCells.{call_step, cell_there}
use Rattle.plain_list.proofs.SplitHistories.{open-le}
use Rattle.commit_book.proofs.Undone.{can_step, inside-reserved, inside-undone, kind-quiet, kind-told, kind-undone, moments-undone, refused-undone, refused_freely, would_change, quiet_told, noted, since-undone, since-told}
use Rattle.commit_book.proofs.EarlyReturns.{never_ok, same_books, hands_on, no_memory, done_freely, calm-update, leaves-checked, leaves-memory}
use Rattle.commit_book.proofs.UpdateCalls.{may_update}
use Rattle.commit_book.proofs.book.Book.update.Goals as goal

pub returns-in_err-check_update-clause-any_moment : goal.returns-in_err-check_update-clause-any_moment
returns-in_err-check_update-clause-any_moment g c =
    rw (← c.self.view_is)
    (leaves-quiet g.D.LogDisk.drive g.I.Index.WIDTH c.self.inside.opening c.self.inside.history.entries _ c.self.inside.journal g.met.D.LogDisk.keeps_laws c.self.invariant.on_log)

pub overflow_add-len : goal.overflow_add-len
overflow_add-len g c =
    let h = c.self.inside.history.entries in
    omega (arith, c.len.ensures, ap length c.self.invariant.splits, open-le g.I.Index.WIDTH c.self.inside.opening h, ap length c.self.invariant.opening.rests, c.self.invariant.few, most-le c.self.inside.history.kept)

pub reserve-requires : goal.reserve-requires
reserve-requires g c =
    let h = c.self.inside.history.entries in
    omega (arith, c.len.ensures, ap length c.self.invariant.splits, open-le g.I.Index.WIDTH c.self.inside.opening h, ap length c.self.invariant.opening.rests, c.self.invariant.few, most-le c.self.inside.history.kept)

pub returns-in_err-reserve-clause-any_moment : goal.returns-in_err-reserve-clause-any_moment
returns-in_err-reserve-clause-any_moment g c =
    rw (← c.self.view_is)
    (leaves-quiet g.D.LogDisk.drive g.I.Index.WIDTH c.self.inside.opening c.self.inside.history.entries _ c.self.inside.journal g.met.D.LogDisk.keeps_laws c.self.invariant.on_log)

pub update-requires-clause-can : goal.update-requires-clause-can
update-requires-clause-can g c = λ change.
    let w = g.I.Index.WIDTH in
    let b = c.self.inside in
    let op = c.args.op.now in
    let may = may_update (book_of b) op c.self.invariant.few (passed _ _ (rw (← c.self.view_is) at c.in_ok-check_update.ensures)) in
    let world = c.self.invariant.world ∙ state_after-world w b.opening b.history.entries in
    let cell = cell_there op b.table.world c.requires change in
    let room = ap (λ (v : Events). v.room) c.in_ok-reserve.ensures.ok in
    can_step g.D.LogDisk.drive w b.opening b c.reserve.new.self (lost.Call c.args.session c.args.row op) cell.0 cell.1 c.self.invariant may.call.going
    (may.room (ap (λ (ms : World). is_change (answer_of ms op)) (sym world) ∙ change)) (ap (λ (v : Events). v.entries) c.in_ok-reserve.ensures.ok) (omega (arith, room))

pub invariant_of-self-in-Err : goal.invariant_of-self-in-Err
invariant_of-self-in-Err g c =
    let w = g.I.Index.WIDTH in
    let b = c.self.inside in
    let h = b.history.entries in
    let op = c.args.op.now in
    let may = may_update (book_of b) op c.self.invariant.few (passed _ _ (rw (← c.self.view_is) at c.in_ok-check_update.ensures)) in
    let world = c.self.invariant.world ∙ state_after-world w b.opening h in
    let told = would_change Answer (Takes g.D.LogDisk.drive) (Loses g.D.LogDisk.drive) _ _ c.update.new.commit c.in-Err.undone c.in-Err.ensures.told in
    let change : is_change (answer_of (world_after b.opening.world h) op) ≡ true = ap (λ (ms : World). is_change (answer_of ms op)) (sym world) ∙ told.0 in
    inside-undone g.D.LogDisk.drive w b.opening b c.self.invariant may.call.going Answer c.update.new.self b.splits b.opening (c.len.result + 1) c.in-Err.undone _ c.update.new.commit may.call.few
    (call_step w b.opening h c.self.invariant.legal may.call.going c.args.session c.args.row op change) c.in_ok-reserve.ensures.ok refl (omega (arith, c.len.ensures)) c.in-Err.ensures.err refl refl told.1

pub returns-in-Err-clause-any_moment : goal.returns-in-Err-clause-any_moment
returns-in-Err-clause-any_moment g c =
    let w = g.I.Index.WIDTH in
    let b = c.self.inside in
    let h = b.history.entries in
    let op = c.args.op.now in
    let may = may_update (book_of b) op c.self.invariant.few (passed _ _ (rw (← c.self.view_is) at c.in_ok-check_update.ensures)) in
    let world = c.self.invariant.world ∙ state_after-world w b.opening h in
    let told = would_change Answer (Takes g.D.LogDisk.drive) (Loses g.D.LogDisk.drive) _ _ c.update.new.commit c.in-Err.undone c.in-Err.ensures.told in
    let change : is_change (answer_of (world_after b.opening.world h) op) ≡ true = ap (λ (ms : World). is_change (answer_of ms op)) (sym world) ∙ told.0 in
    rw (← c.self.view_is) (λ none.
    moments-undone g.D.LogDisk.drive w b.opening b c.self.invariant may.call.going Answer g.met.D.LogDisk.keeps_laws (c.len.result + 1) c.in-Err.undone _ c.update.new.commit
    (call_step w b.opening h c.self.invariant.legal may.call.going c.args.session c.args.row op change) c.in_ok-reserve.ensures.ok refl told.1)

pub note_quiet-requires : goal.note_quiet-requires
note_quiet-requires g c = λ none.
    let b = c.self.inside in
    let told = quiet_told (Takes g.D.LogDisk.drive) (Loses g.D.LogDisk.drive) (is_change (answer_of b.table.world c.args.op.now)) _ c.update.new.commit c.in-Ok.answer
    (sym (ap is_change c.in-Ok.ensures.ok.answer_is) ∙ none) c.in-Ok.ensures.told in
    let same : c.update.new.commit.history.now ≡ record b.history { room = c.len.result + 1 } = ap (λ (s : Step _). s.history.now) told ∙ c.in_ok-reserve.ensures.ok in
    (omega (arith, ap (λ (v : Events). v.room) same), omega (arith, ap (λ (v : Events). length v.entries) same, c.self.invariant.few, most-le c.self.inside.history.kept))

pub invariant_of-self-2 : goal.invariant_of-self-2
invariant_of-self-2 g c =
    let w = g.I.Index.WIDTH in
    let b = c.self.inside in
    let h = b.history.entries in
    let op = c.args.op.now in
    let may = may_update (book_of b) op c.self.invariant.few (passed _ _ (rw (← c.self.view_is) at c.in_ok-check_update.ensures)) in
    let world = c.self.invariant.world ∙ state_after-world w b.opening h in
    let steps = steps_on w b.opening h (Call c.args.session c.args.row op) c.self.invariant.legal (has_failed-none h may.call.going) refl in
    let now : is_change (answer_of (world_after b.opening.world h) op) ≡ is_change (answer_of b.table.world op) = ap (λ (ms : World). is_change (answer_of ms op)) (sym world) in
    let it =
    noted g.D.LogDisk.drive w b.opening b c.self.invariant may.call.going g.met.D.LogDisk.keeps_laws c.args.session c.args.row op (c.len.result + 1) (is_change (answer_of b.table.world op))
    c.in-Ok.answer _ c.update.new.commit c.note_quiet.new.history
    (call_step w b.opening h c.self.invariant.legal may.call.going c.args.session c.args.row op) steps.legal refl c.in_ok-reserve.ensures.ok refl now
    (ap is_change c.in-Ok.ensures.ok.answer_is) c.in-Ok.ensures.told c.note_quiet.ensures.noted c.note_quiet.ensures.quiet in
    inside-call g.D.LogDisk.drive w b.opening b _ c.self.invariant may.call.going it.keeps it.since it.kept c.args.session c.args.row op may.call.few it.entries (omega (arith, it.room, c.len.ensures))
    c.in-Ok.ensures.ok.changes.world (rw c.as_slice.ensures at c.in-Ok.ensures.ok.changes.bases) refl

pub returns-clause-ok : goal.returns-clause-ok
returns-clause-ok g c =
    let w = g.I.Index.WIDTH in
    let b = c.self.inside in
    let h = b.history.entries in
    let op = c.args.op.now in
    let may = may_update (book_of b) op c.self.invariant.few (passed _ _ (rw (← c.self.view_is) at c.in_ok-check_update.ensures)) in
    let world = c.self.invariant.world ∙ state_after-world w b.opening h in
    let steps = steps_on w b.opening h (Call c.args.session c.args.row op) c.self.invariant.legal (has_failed-none h may.call.going) refl in
    let now : is_change (answer_of (world_after b.opening.world h) op) ≡ is_change (answer_of b.table.world op) = ap (λ (ms : World). is_change (answer_of ms op)) (sym world) in
    let it =
    noted g.D.LogDisk.drive w b.opening b c.self.invariant may.call.going g.met.D.LogDisk.keeps_laws c.args.session c.args.row op (c.len.result + 1) (is_change (answer_of b.table.world op))
    c.in-Ok.answer _ c.update.new.commit c.note_quiet.new.history
    (call_step w b.opening h c.self.invariant.legal may.call.going c.args.session c.args.row op) steps.legal refl c.in_ok-reserve.ensures.ok refl now
    (ap is_change c.in-Ok.ensures.ok.answer_is) c.in-Ok.ensures.told c.note_quiet.ensures.noted c.note_quiet.ensures.quiet in
    rw (← c.self.view_is) (record {
      notes = record { entries = it.entries; place_is = c.calls.ensures };
      answer_is = c.in-Ok.ensures.ok.answer_is ∙ ap (λ (ms : World). answer_of ms op) world;
      full_is = c.full.ensures.full;
      settled = subst (λ (os : List OpenSplit). AreSettled os b.table.leaves c.update.new.self.leaves) (c.as_slice.ensures ∙ c.self.invariant.splits) c.in-Ok.ensures.ok.changes.settled;
    })

pub returns-clause-any_moment : goal.returns-clause-any_moment
returns-clause-any_moment g c =
    let w = g.I.Index.WIDTH in
    let b = c.self.inside in
    let h = b.history.entries in
    let op = c.args.op.now in
    let may = may_update (book_of b) op c.self.invariant.few (passed _ _ (rw (← c.self.view_is) at c.in_ok-check_update.ensures)) in
    let world = c.self.invariant.world ∙ state_after-world w b.opening h in
    let steps = steps_on w b.opening h (Call c.args.session c.args.row op) c.self.invariant.legal (has_failed-none h may.call.going) refl in
    let now : is_change (answer_of (world_after b.opening.world h) op) ≡ is_change (answer_of b.table.world op) = ap (λ (ms : World). is_change (answer_of ms op)) (sym world) in
    let it =
    noted g.D.LogDisk.drive w b.opening b c.self.invariant may.call.going g.met.D.LogDisk.keeps_laws c.args.session c.args.row op (c.len.result + 1) (is_change (answer_of b.table.world op))
    c.in-Ok.answer _ c.update.new.commit c.note_quiet.new.history
    (call_step w b.opening h c.self.invariant.legal may.call.going c.args.session c.args.row op) steps.legal refl c.in_ok-reserve.ensures.ok refl now
    (ap is_change c.in-Ok.ensures.ok.answer_is) c.in-Ok.ensures.told c.note_quiet.ensures.noted c.note_quiet.ensures.quiet in
    rw (← c.self.view_is) (λ none. it.moments)

pub returns-in-Err-clause-err : goal.returns-in-Err-clause-err
returns-in-Err-clause-err g c =
    let w = g.I.Index.WIDTH in
    let b = c.self.inside in
    let op = c.args.op.now in
    let world = c.self.invariant.world ∙ state_after-world w b.opening b.history.entries in
    let told = would_change Answer (Takes g.D.LogDisk.drive) (Loses g.D.LogDisk.drive) _ _ c.update.new.commit c.in-Err.undone c.in-Err.ensures.told in
    let change : is_change (answer_of (world_after b.opening.world b.history.entries) op) ≡ true = ap (λ (ms : World). is_change (answer_of ms op)) (sym world) ∙ told.0 in
    let it =
    refused-undone g.D.LogDisk.drive w b.opening b c.self.invariant (may_update (book_of b) op c.self.invariant.few (passed _ _ (rw (← c.self.view_is) at c.in_ok-check_update.ensures))).call.going Answer
    c.update.new.self (c.len.result + 1) c.written-cell.result c.in-Err.undone _ c.update.new.commit c.in_ok-reserve.ensures.ok refl c.in-Err.ensures.err change c.written-cell.ensures told.1 in
    rw (← c.self.view_is) (rw c.fault_of.ensures it)

pub returns-in-Err-clause-refused : goal.returns-in-Err-clause-refused
returns-in-Err-clause-refused g c = rw c.fault_of.ensures (refused_freely _ _ c.in-Err.undone c.written-cell.result (passed _ _ c.in_ok-check_update.ensures))

pub returns-in_err-check_update-clause-refused : goal.returns-in_err-check_update-clause-refused
returns-in_err-check_update-clause-refused g c = hands_on (Unit {0}) IsMemoryOrDisk _ c.in_err-check_update.field-0.0 _ c.in_err-check_update.ensures c.from_residual.ensures.1

pub returns-in_err-check_update-clause-err : goal.returns-in_err-check_update-clause-err
returns-in_err-check_update-clause-err g c =
    leaves-checked g.D.LogDisk.drive (lost.Call c.args.session c.args.row c.args.op.now) _ _ refl (Unit {0}) _ c.in_err-check_update.field-0.0 c.from_residual.result (calm-update c.args.self.now c.args.op.now) c.in_err-check_update.ensures c.from_residual.ensures.1

pub returns-in_err-check_update-clause-book : goal.returns-in_err-check_update-clause-book
returns-in_err-check_update-clause-book g c = same_books g.D.LogDisk.drive g.I.Index.WIDTH _ _ refl c.keep.ensures

pub returns-in_err-reserve-clause-refused : goal.returns-in_err-reserve-clause-refused
returns-in_err-reserve-clause-refused g c = no_memory IsMemoryOrDisk _ _ (inl refl) (passed _ _ c.in_ok-check_update.ensures) c.from_residual-in_err-reserve.ensures.1

pub returns-in_err-reserve-clause-err : goal.returns-in_err-reserve-clause-err
returns-in_err-reserve-clause-err g c =
    let b = c.self.inside in
    leaves-memory g.D.LogDisk.drive (lost.Call c.args.session c.args.row c.args.op.now) _ _ ((λ i. record { leaves = b.table.leaves; opening = b.opening; entries = (c.in_err-reserve.ensures.err i).entries; bucket = b.table.size; log = b.journal; kept = (c.in_err-reserve.ensures.err i).kept }) ∙ c.self.view_is) c.from_residual-in_err-reserve.result c.from_residual-in_err-reserve.ensures.1

pub returns-in_err-reserve-clause-book : goal.returns-in_err-reserve-clause-book
returns-in_err-reserve-clause-book g c =
    let b = c.self.inside in
    same_books g.D.LogDisk.drive g.I.Index.WIDTH _ _ ((λ i. record { leaves = b.table.leaves; opening = b.opening; entries = (c.in_err-reserve.ensures.err i).entries; bucket = b.table.size; log = b.journal; kept = (c.in_err-reserve.ensures.err i).kept }) ∙ c.self.view_is) c.keep.ensures

pub returns-in-Err-clause-book : goal.returns-in-Err-clause-book
returns-in-Err-clause-book g c =
    let told = would_change Answer (Takes g.D.LogDisk.drive) (Loses g.D.LogDisk.drive) _ _ c.update.new.commit c.in-Err.undone c.in-Err.ensures.told in
    record {
      before = c.keep.ensures;
      after = c.keep-in-Err.ensures;
      origin = rw (← c.self.view_is) (record { opening = refl; bucket = ap (λ (t : TableView). t.size) c.in-Err.ensures.err; log = since-undone g.D.LogDisk.drive Answer _ c.in-Err.undone _ c.update.new.commit refl told.1; kept = kind-undone g.D.LogDisk.drive Answer (record c.self.inside.history { room = c.len.result + 1 }) c.in-Err.undone _ c.update.new.commit c.in_ok-reserve.ensures.ok told.1 });
    }

pub returns-clause-refused : goal.returns-clause-refused
returns-clause-refused g c = done_freely IsMemoryOrDisk _ _ (passed _ _ c.in_ok-check_update.ensures)

pub invariant_of-self : goal.invariant_of-self
invariant_of-self g c = inside-reserved g.D.LogDisk.drive g.I.Index.WIDTH _ c.self.inside _ c.reserve.new.self _ c.self.invariant refl refl c.in_err-reserve.ensures.err c.self.invariant.room

pub update-requires-clause-update : goal.update-requires-clause-update
update-requires-clause-update g c = c.requires

pub returns-in_err-check_update-clause-ok : goal.returns-in_err-check_update-clause-ok
returns-in_err-check_update-clause-ok g c = never_ok c.from_residual.result _ c.from_residual.ensures.0

pub returns-in_err-reserve-clause-ok : goal.returns-in_err-reserve-clause-ok
returns-in_err-reserve-clause-ok g c = never_ok c.from_residual-in_err-reserve.result _ c.from_residual-in_err-reserve.ensures.0

pub returns-clause-book : goal.returns-clause-book
returns-clause-book g c =
    let b = c.self.inside in
    record {
      before = c.keep.ensures;
      after = c.full.ensures.book;
      origin = rw (← c.self.view_is) (record {
        opening = refl;
        bucket = c.in-Ok.ensures.ok.changes.size;
        log = since-told g.D.LogDisk.drive (is_change (answer_of b.table.world c.args.op.now)) _ c.in-Ok.answer _ c.update.new.commit refl c.in-Ok.ensures.told;
        kept =
            kind-quiet (is_change c.in-Ok.answer) _ c.update.new.commit.history.now c.note_quiet.new.history c.note_quiet.ensures.noted c.note_quiet.ensures.quiet
            ∙ kind-told g.D.LogDisk.drive (is_change (answer_of b.table.world c.args.op.now)) (record b.history { room = c.len.result + 1 }) c.in-Ok.answer _ c.update.new.commit c.in_ok-reserve.ensures.ok c.in-Ok.ensures.told;
      });
    }
