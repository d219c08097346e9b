use Rattle.std.proofs.Common.{◌≡◌, ◌+◌, ◌<◌, Bool, List, [], ◌∷◌, ◌++◌, length, Global, inl, refl, sym, ap, subst, ◌∙◌, arith}
use Rattle.std.specs.Cmp.Derive.{both_true}
use Rattle.std.proofs.lemmas.Bool.{le-leb}
use Rattle.std.specs.declared.sync.Arc.{Arc}
use Rattle.bucket_versions.specs.declared.bucket.Bucket.{Bucket}
use Rattle.cell_format.specs.declared.cell.Cell.TheVariants as cell
use Rattle.plain_list.specs.State.{is_leaf, state_after}
use Rattle.plain_list.specs.declared.entries.Entry.TheVariants.{Begin}
use Rattle.plain_list.specs.declared.entries.Lost.TheVariants as lost
use Rattle.kept_log.specs.Journal.{cells_in, LeavesEither}
use Rattle.kept_log.proofs.InJournal.{leaves-quiet}
use Rattle.point_table.specs.TableView.{TableView}
use Rattle.commit_book.specs.BookInside.{book_of}
use Rattle.commit_book.specs.Events.{Events}
use Rattle.commit_book.specs.BookView.{next_number}
use Rattle.commit_book.specs.IsBook.{IsBook, most_events}
use Rattle.commit_book.specs.Refusals.{IsMemoryOrDisk}
use Rattle.commit_book.proofs.BookStates.{inside-begin}
use Rattle.commit_book.proofs.KeptLemmas.{folded-under}
use Rattle.commit_book.proofs.Limits.{begin-less, most-le}
use Rattle.commit_book.proofs.RefusalLemmas.{MayBegin, may_begin, passed, is_leaf-names_of}
use Rattle.commit_book.proofs.SplitCells.{begin_step, few_cells}
use Rattle.plain_list.proofs.SplitHistories.{open-le, begun-le}
use Rattle.commit_book.proofs.Undone.{can_step, inside-reserved, inside-undone, kind-undone, moments-undone, refused-undone, refused_freely, since-undone, taken}
use Rattle.commit_book.proofs.EarlyReturns.{never_ok, same_books, hands_on, no_memory, done_freely, calm-begin, leaves-checked, leaves-memory}
use Rattle.commit_book.proofs.book.Book.begin.Goals as goal

pub returns-in_err-check_begin-clause-any_moment : goal.returns-in_err-check_begin-clause-any_moment
returns-in_err-check_begin-clause-any_moment g c =
    rw (← c.self.view_is)
    (leaves-quiet g.D.LogDisk.drive g.I.Index.WIDTH c.self.inside.opening c.self.inside.history.entries _ c.self.inside.journal g.met.D.LogDisk.keeps_laws c.self.invariant.on_log)

pub returns-in_err-reserve-clause-any_moment : goal.returns-in_err-reserve-clause-any_moment
returns-in_err-reserve-clause-any_moment g c =
    rw (← c.self.view_is)
    (leaves-quiet g.D.LogDisk.drive g.I.Index.WIDTH c.self.inside.opening c.self.inside.history.entries _ c.self.inside.journal g.met.D.LogDisk.keeps_laws c.self.invariant.on_log)

pub overflow_add-len : goal.overflow_add-len
overflow_add-len g c =
    let h = c.self.inside.history.entries in
    omega (arith, c.len.ensures, ap length c.in_ok-reserve.ensures.splits, ap length c.self.invariant.splits, open-le g.I.Index.WIDTH c.self.inside.opening h, ap length c.self.invariant.opening.rests, c.self.invariant.few, most-le c.self.inside.history.kept)

pub reserve-requires-2 : goal.reserve-requires-2
reserve-requires-2 g c =
    let h = c.self.inside.history.entries in
    omega (arith, c.len.ensures, ap length c.in_ok-reserve.ensures.splits, ap length c.self.invariant.splits, open-le g.I.Index.WIDTH c.self.inside.opening h, ap length c.self.invariant.opening.rests, c.self.invariant.few, most-le c.self.inside.history.kept)

pub returns-in_err-reserve-2-clause-any_moment : goal.returns-in_err-reserve-2-clause-any_moment
returns-in_err-reserve-2-clause-any_moment g c =
    rw (← c.self.view_is)
    (leaves-quiet g.D.LogDisk.drive g.I.Index.WIDTH c.self.inside.opening c.self.inside.history.entries _ c.self.inside.journal g.met.D.LogDisk.keeps_laws c.self.invariant.on_log)

pub next_number-number-requires : goal.next_number-number-requires
next_number-number-requires g c =
    omega (arith, c.in_ok-reserve.ensures.begun, c.self.invariant.begun, begun-le g.I.Index.WIDTH c.self.inside.opening c.self.inside.history.entries, c.self.invariant.opening.begun, c.self.invariant.few, most-le c.self.inside.history.kept)

pub fold-requires-clause-can : goal.fold-requires-clause-can
fold-requires-clause-can g c =
    let w = g.I.Index.WIDTH in
    let b = c.self.inside in
    let o = b.opening in
    let h = b.history.entries in
    let name = c.args.name.now in
    let may : MayBegin b.history.kept w (state_after w o h) h (cells_in b.journal) name = may_begin w (book_of b) name (passed _ _ (rw (← c.self.view_is) at c.in_ok-check_begin.ensures)) in
    let number = c.next_number-number.result in
    can_step g.D.LogDisk.drive w o b c.reserve-2.new.self (lost.Begin number name) (cell.Begin number name) refl c.self.invariant may.going (few_cells (cells_in b.journal) may.room)
    (ap (λ (v : Events). v.entries) c.in_ok-reserve-2.ensures.ok) (omega (arith, ap (λ (v : Events). v.room) c.in_ok-reserve-2.ensures.ok))

pub fold-requires-clause-leaf : goal.fold-requires-clause-leaf
fold-requires-clause-leaf g c =
    let w = g.I.Index.WIDTH in
    let b = c.self.inside in
    let o = b.opening in
    let h = b.history.entries in
    let name = c.args.name.now in
    let may : MayBegin b.history.kept w (state_after w o h) h (cells_in b.journal) name = may_begin w (book_of b) name (passed _ _ (rw (← c.self.view_is) at c.in_ok-check_begin.ensures)) in
    sym (is_leaf-names_of name b.table.leaves) ∙ ap (λ (ls : List (List Bool)). is_leaf ls name) c.self.invariant.names ∙ may.leaf

pub invariant_of-self-in-Err : goal.invariant_of-self-in-Err
invariant_of-self-in-Err g c =
    let w = g.I.Index.WIDTH in
    let b = c.self.inside in
    let o = b.opening in
    let h = b.history.entries in
    let name = c.args.name.now in
    let may : MayBegin b.history.kept w (state_after w o h) h (cells_in b.journal) name = may_begin w (book_of b) name (passed _ _ (rw (← c.self.view_is) at c.in_ok-check_begin.ensures)) in
    let few : length h < most_events b.history.kept = omega (arith, may.few, begin-less b.history.kept) in
    let number = c.next_number-number.result in
    let next : number ≡ (state_after w o h).begun + 1 = c.next_number-number.ensures ∙ ap (λ n. n + 1) (c.in_ok-reserve.ensures.begun ∙ c.self.invariant.begun) in
    let step = begin_step w o h c.self.invariant.legal may.going b.history.kept (cells_in b.journal) number name may next in
    inside-undone g.D.LogDisk.drive w o b c.self.invariant may.going (Arc Bucket Global) c.fold.new.self c.reserve.new.self o (c.len.result + 2) c.in-Err.undone _ c.fold.new.commit few step
    c.in_ok-reserve-2.ensures.ok refl (omega (arith, c.len.ensures, ap length c.in_ok-reserve.ensures.splits)) c.in-Err.ensures.err c.in_ok-reserve.ensures.splits c.in_ok-reserve.ensures.begun c.in-Err.ensures.told

pub returns-in-Err-clause-any_moment : goal.returns-in-Err-clause-any_moment
returns-in-Err-clause-any_moment g c =
    let w = g.I.Index.WIDTH in
    let b = c.self.inside in
    let o = b.opening in
    let h = b.history.entries in
    let name = c.args.name.now in
    let may : MayBegin b.history.kept w (state_after w o h) h (cells_in b.journal) name = may_begin w (book_of b) name (passed _ _ (rw (← c.self.view_is) at c.in_ok-check_begin.ensures)) in
    let few : length h < most_events b.history.kept = omega (arith, may.few, begin-less b.history.kept) in
    let number = c.next_number-number.result in
    let next : number ≡ (state_after w o h).begun + 1 = c.next_number-number.ensures ∙ ap (λ n. n + 1) (c.in_ok-reserve.ensures.begun ∙ c.self.invariant.begun) in
    let step = begin_step w o h c.self.invariant.legal may.going b.history.kept (cells_in b.journal) number name may next in
    rw (← c.self.view_is) (λ none.
    subst (λ n. LeavesEither g.D.LogDisk.drive w o h (Begin n name) b.journal c.fold.new.commit.journal.now) next
    (moments-undone g.D.LogDisk.drive w o b c.self.invariant may.going (Arc Bucket Global) g.met.D.LogDisk.keeps_laws (c.len.result + 2) c.in-Err.undone _ c.fold.new.commit step
    c.in_ok-reserve-2.ensures.ok refl c.in-Err.ensures.told))

pub push-requires-clause-few : goal.push-requires-clause-few
push-requires-clause-few g c =
    omega (arith, c.in_ok-reserve.ensures.begun, c.self.invariant.begun, begun-le g.I.Index.WIDTH c.self.inside.opening c.self.inside.history.entries, c.self.invariant.opening.begun, c.self.invariant.few, most-le c.self.inside.history.kept)

pub invariant_of-self-2 : goal.invariant_of-self-2
invariant_of-self-2 g c =
    let w = g.I.Index.WIDTH in
    let b = c.self.inside in
    let o = b.opening in
    let h = b.history.entries in
    let name = c.args.name.now in
    let may : MayBegin b.history.kept w (state_after w o h) h (cells_in b.journal) name = may_begin w (book_of b) name (passed _ _ (rw (← c.self.view_is) at c.in_ok-check_begin.ensures)) in
    let number = c.next_number-number.result in
    let next : number ≡ (state_after w o h).begun + 1 = c.next_number-number.ensures ∙ ap (λ n. n + 1) (c.in_ok-reserve.ensures.begun ∙ c.self.invariant.begun) in
    let step = begin_step w o h c.self.invariant.legal may.going b.history.kept (cells_in b.journal) number name may next in
    let book : IsBook g.D.LogDisk.drive w (book_of b) = rw (← c.self.view_is) at c.keep.ensures in
    let it = taken g.D.LogDisk.drive w o b c.self.invariant may.going (c.len.result + 2) _ c.fold.new.commit step c.in_ok-reserve-2.ensures.ok refl c.in-Ok.ensures.told in
    let begun : c.reserve.new.self.begun ≡ b.splits.begun = c.in_ok-reserve.ensures.begun in
    let same : number ≡ b.splits.begun + 1 = c.next_number-number.ensures ∙ ap (λ n. n + 1) begun in
    inside-begin g.D.LogDisk.drive w o b _ c.self.invariant may.going it.keeps it.since it.kept name _ may.few may.room book.stands.are_leaves book.stands.rows c.in-Ok.ensures.folds
    (both_true may.leaf (le-leb (length name + w) 64 may.short)) may.free (it.entries ∙ ap (λ n. h ++ Begin n name ∷ []) same) (omega (arith, it.room, c.len.ensures, ap length c.in_ok-reserve.ensures.splits))
    (ap (λ (t : TableView). t.world) c.in-Ok.ensures.rest)
    (c.push.ensures.splits ∙ (λ i. c.in_ok-reserve.ensures.splits i ++ record { number = begun i + 1; name = name } ∷ []))
    (c.push.ensures.begun ∙ ap (λ n. n + 1) begun)

pub returns-clause-ticket : goal.returns-clause-ticket
returns-clause-ticket g c =
    let w = g.I.Index.WIDTH in
    let b = c.self.inside in
    let o = b.opening in
    let h = b.history.entries in
    let name = c.args.name.now in
    let may : MayBegin b.history.kept w (state_after w o h) h (cells_in b.journal) name = may_begin w (book_of b) name (passed _ _ (rw (← c.self.view_is) at c.in_ok-check_begin.ensures)) in
    let book : IsBook g.D.LogDisk.drive w (book_of b) = rw (← c.self.view_is) at c.keep.ensures in
    record { short = may.short; under = folded-under name b.table.leaves _ _ book.stands.are_leaves c.in-Ok.ensures.folds }

pub returns-in-Err-clause-refused : goal.returns-in-Err-clause-refused
returns-in-Err-clause-refused g c = rw c.fault_of.ensures (refused_freely _ _ c.in-Err.undone c.written-cell.result (passed _ _ c.in_ok-check_begin.ensures))

pub returns-in-Err-clause-err : goal.returns-in-Err-clause-err
returns-in-Err-clause-err g c =
    let w = g.I.Index.WIDTH in
    let b = c.self.inside in
    let o = b.opening in
    let h = b.history.entries in
    let name = c.args.name.now in
    let may : MayBegin b.history.kept w (state_after w o h) h (cells_in b.journal) name = may_begin w (book_of b) name (passed _ _ (rw (← c.self.view_is) at c.in_ok-check_begin.ensures)) in
    let next : c.next_number-number.result ≡ (state_after w o h).begun + 1 = c.next_number-number.ensures ∙ ap (λ n. n + 1) (c.in_ok-reserve.ensures.begun ∙ c.self.invariant.begun) in
    let it =
    refused-undone g.D.LogDisk.drive w o b c.self.invariant may.going (Arc Bucket Global) c.fold.new.self (c.len.result + 2) c.written-cell.result c.in-Err.undone _ c.fold.new.commit
    c.in_ok-reserve-2.ensures.ok refl c.in-Err.ensures.err tt c.written-cell.ensures c.in-Err.ensures.told in
    rw (← c.self.view_is) (rw (c.fault_of.ensures, ← next) it)

pub returns-clause-ok : goal.returns-clause-ok
returns-clause-ok g c =
    let w = g.I.Index.WIDTH in
    let b = c.self.inside in
    let o = b.opening in
    let h = b.history.entries in
    let name = c.args.name.now in
    let may : MayBegin b.history.kept w (state_after w o h) h (cells_in b.journal) name = may_begin w (book_of b) name (passed _ _ (rw (← c.self.view_is) at c.in_ok-check_begin.ensures)) in
    let number = c.next_number-number.result in
    let next : number ≡ (state_after w o h).begun + 1 = c.next_number-number.ensures ∙ ap (λ n. n + 1) (c.in_ok-reserve.ensures.begun ∙ c.self.invariant.begun) in
    let step = begin_step w o h c.self.invariant.legal may.going b.history.kept (cells_in b.journal) number name may next in
    let it = taken g.D.LogDisk.drive w o b c.self.invariant may.going (c.len.result + 2) _ c.fold.new.commit step c.in_ok-reserve-2.ensures.ok refl c.in-Ok.ensures.told in
    rw (← c.self.view_is) (record { entries = it.entries; number_is = next; name_is = refl; folds = c.in-Ok.ensures.folds })

pub returns-clause-book : goal.returns-clause-book
returns-clause-book g c =
    record {
      before = c.keep.ensures;
      after = c.keep-2.ensures;
      origin = rw (← c.self.view_is) (record { opening = refl; bucket = ap (λ (t : TableView). t.size) c.in-Ok.ensures.rest; log = c.in-Ok.ensures.told.ends.since; kept = ap (λ (v : Events). v.kept) c.in-Ok.ensures.told.ends.events ∙ ap (λ (v : Events). v.kept) c.in_ok-reserve-2.ensures.ok });
    }

pub returns-in_err-check_begin-clause-refused : goal.returns-in_err-check_begin-clause-refused
returns-in_err-check_begin-clause-refused g c = hands_on (Unit {0}) IsMemoryOrDisk _ c.in_err-check_begin.field-0.0 _ c.in_err-check_begin.ensures c.from_residual.ensures.1

pub returns-in_err-check_begin-clause-err : goal.returns-in_err-check_begin-clause-err
returns-in_err-check_begin-clause-err g c =
    leaves-checked g.D.LogDisk.drive (lost.Begin (next_number g.I.Index.WIDTH c.args.self.now) c.args.name.now) _ _ refl (Unit {0}) _ c.in_err-check_begin.field-0.0 c.from_residual.result (calm-begin g.I.Index.WIDTH c.args.self.now c.args.name.now) c.in_err-check_begin.ensures c.from_residual.ensures.1

pub returns-in_err-check_begin-clause-book : goal.returns-in_err-check_begin-clause-book
returns-in_err-check_begin-clause-book g c = same_books g.D.LogDisk.drive g.I.Index.WIDTH _ _ refl c.keep.ensures

pub returns-in_err-reserve-clause-refused : goal.returns-in_err-reserve-clause-refused
returns-in_err-reserve-clause-refused g c = no_memory IsMemoryOrDisk _ _ (inl refl) (passed _ _ c.in_ok-check_begin.ensures) c.from_residual-in_err-reserve.ensures.1

pub returns-in_err-reserve-clause-err : goal.returns-in_err-reserve-clause-err
returns-in_err-reserve-clause-err g c =
    let b = c.self.inside in
    leaves-memory g.D.LogDisk.drive (lost.Begin (next_number g.I.Index.WIDTH c.args.self.now) c.args.name.now) _ _ (c.self.view_is) c.from_residual-in_err-reserve.result c.from_residual-in_err-reserve.ensures.1

pub returns-in_err-reserve-clause-book : goal.returns-in_err-reserve-clause-book
returns-in_err-reserve-clause-book g c =
    let b = c.self.inside in
    same_books g.D.LogDisk.drive g.I.Index.WIDTH _ _ (c.self.view_is) c.keep.ensures

pub returns-in_err-reserve-2-clause-refused : goal.returns-in_err-reserve-2-clause-refused
returns-in_err-reserve-2-clause-refused g c = no_memory IsMemoryOrDisk _ _ (inl refl) (passed _ _ c.in_ok-check_begin.ensures) c.from_residual-in_err-reserve-2.ensures.1

pub returns-in_err-reserve-2-clause-err : goal.returns-in_err-reserve-2-clause-err
returns-in_err-reserve-2-clause-err g c =
    let b = c.self.inside in
    leaves-memory g.D.LogDisk.drive (lost.Begin (next_number g.I.Index.WIDTH c.args.self.now) c.args.name.now) _ _ ((λ i. record { leaves = b.table.leaves; opening = b.opening; entries = (c.in_err-reserve-2.ensures.err i).entries; bucket = b.table.size; log = b.journal; kept = (c.in_err-reserve-2.ensures.err i).kept }) ∙ c.self.view_is) c.from_residual-in_err-reserve-2.result c.from_residual-in_err-reserve-2.ensures.1

pub returns-in_err-reserve-2-clause-book : goal.returns-in_err-reserve-2-clause-book
returns-in_err-reserve-2-clause-book g c =
    let b = c.self.inside in
    same_books g.D.LogDisk.drive g.I.Index.WIDTH _ _ ((λ i. record { leaves = b.table.leaves; opening = b.opening; entries = (c.in_err-reserve-2.ensures.err i).entries; bucket = b.table.size; log = b.journal; kept = (c.in_err-reserve-2.ensures.err i).kept }) ∙ c.self.view_is) c.keep.ensures

pub returns-in-Err-clause-book : goal.returns-in-Err-clause-book
returns-in-Err-clause-book g c =
    record {
      before = c.keep.ensures;
      after = c.keep-in-Err.ensures;
      origin = rw (← c.self.view_is) (record { opening = refl; bucket = ap (λ (t : TableView). t.size) c.in-Err.ensures.err; log = since-undone g.D.LogDisk.drive (Arc Bucket Global) _ c.in-Err.undone _ c.fold.new.commit refl c.in-Err.ensures.told; kept = kind-undone g.D.LogDisk.drive (Arc Bucket Global) (record c.self.inside.history { room = c.len.result + 2 }) c.in-Err.undone _ c.fold.new.commit c.in_ok-reserve-2.ensures.ok c.in-Err.ensures.told });
    }

pub returns-clause-refused : goal.returns-clause-refused
returns-clause-refused g c = done_freely IsMemoryOrDisk _ _ (passed _ _ c.in_ok-check_begin.ensures)

pub returns-clause-any_moment : goal.returns-clause-any_moment
returns-clause-any_moment g c =
    let w = g.I.Index.WIDTH in
    let b = c.self.inside in
    let o = b.opening in
    let h = b.history.entries in
    let name = c.args.name.now in
    let may : MayBegin b.history.kept w (state_after w o h) h (cells_in b.journal) name = may_begin w (book_of b) name (passed _ _ (rw (← c.self.view_is) at c.in_ok-check_begin.ensures)) in
    let number = c.next_number-number.result in
    let next : number ≡ (state_after w o h).begun + 1 = c.next_number-number.ensures ∙ ap (λ n. n + 1) (c.in_ok-reserve.ensures.begun ∙ c.self.invariant.begun) in
    let step = begin_step w o h c.self.invariant.legal may.going b.history.kept (cells_in b.journal) number name may next in
    let it = taken g.D.LogDisk.drive w o b c.self.invariant may.going (c.len.result + 2) _ c.fold.new.commit step c.in_ok-reserve-2.ensures.ok refl c.in-Ok.ensures.told in
    rw (← c.self.view_is) (λ none. subst (λ n. LeavesEither g.D.LogDisk.drive w o h (Begin n name) b.journal c.fold.new.commit.journal.now) next it.moments)

pub invariant_of-self : goal.invariant_of-self
invariant_of-self g c = inside-reserved g.D.LogDisk.drive g.I.Index.WIDTH _ c.self.inside c.reserve.new.self _ _ c.self.invariant c.in_err-reserve.ensures.splits c.in_err-reserve.ensures.begun refl c.self.invariant.room

pub invariant_of-self-in_err-reserve-2 : goal.invariant_of-self-in_err-reserve-2
invariant_of-self-in_err-reserve-2 g c = inside-reserved g.D.LogDisk.drive g.I.Index.WIDTH _ c.self.inside c.reserve.new.self c.reserve-2.new.self _ c.self.invariant c.in_ok-reserve.ensures.splits c.in_ok-reserve.ensures.begun c.in_err-reserve-2.ensures.err c.self.invariant.room

pub push-requires-clause-room : goal.push-requires-clause-room
push-requires-clause-room g c = omega (arith, c.in_ok-reserve.ensures.ok)

pub returns-in_err-check_begin-clause-ok : goal.returns-in_err-check_begin-clause-ok
returns-in_err-check_begin-clause-ok g c = never_ok c.from_residual.result _ c.from_residual.ensures.0

pub returns-in_err-check_begin-clause-ticket : goal.returns-in_err-check_begin-clause-ticket
returns-in_err-check_begin-clause-ticket g c = never_ok c.from_residual.result _ c.from_residual.ensures.0

pub returns-in_err-reserve-clause-ok : goal.returns-in_err-reserve-clause-ok
returns-in_err-reserve-clause-ok g c = never_ok c.from_residual-in_err-reserve.result _ c.from_residual-in_err-reserve.ensures.0

pub returns-in_err-reserve-clause-ticket : goal.returns-in_err-reserve-clause-ticket
returns-in_err-reserve-clause-ticket g c = never_ok c.from_residual-in_err-reserve.result _ c.from_residual-in_err-reserve.ensures.0

pub returns-in_err-reserve-2-clause-ok : goal.returns-in_err-reserve-2-clause-ok
returns-in_err-reserve-2-clause-ok g c = never_ok c.from_residual-in_err-reserve-2.result _ c.from_residual-in_err-reserve-2.ensures.0

pub returns-in_err-reserve-2-clause-ticket : goal.returns-in_err-reserve-2-clause-ticket
returns-in_err-reserve-2-clause-ticket g c = never_ok c.from_residual-in_err-reserve-2.result _ c.from_residual-in_err-reserve-2.ensures.0
