use Rattle.std.proofs.Common.{◌≡◌, ◌+◌, ◌<◌, ◌≤◌, Bool, List, [], ◌∷◌, ◌++◌, Some, length, refl, sym, ap, subst, ◌∙◌, arith}
use Rattle.cell_format.specs.declared.cell.Cell.TheVariants as cell
use Rattle.index_layer.specs.Leaves.{names_of}
use Rattle.split_prepare.specs.Cut.{cut}
use Rattle.plain_list.specs.State.{OpenSplit, split_name, state_after, without_number}
use Rattle.plain_list.specs.declared.entries.Entry.TheVariants.{Install}
use Rattle.plain_list.specs.declared.entries.Lost.TheVariants as lost
use Rattle.kept_log.specs.Journal.{LeavesEither}
use Rattle.kept_log.proofs.InJournal.{leaves-quiet}
use Rattle.point_table.specs.Divisions.{Divides}
use Rattle.point_table.specs.TableView.{TableView}
use Rattle.commit_book.specs.BookInside.{book_of}
use Rattle.commit_book.specs.Refusals.{IsMemoryOrDisk}
use Rattle.commit_book.specs.Events.{Events}
use Rattle.commit_book.proofs.BookStates.{inside-install}
use Rattle.point_table.proofs.Dividing.{names_of-divided}
use Rattle.commit_book.proofs.RefusalLemmas.{MayInstall, may_install, Based, has_base-leaf, is_open-name, passed}
use Rattle.commit_book.proofs.SplitCells.{install_step, some_open}
use Rattle.commit_book.proofs.Undone.{can_step, inside-undone, kind-undone, moments-undone, refused-undone, refused_freely, since-undone, taken}
use Rattle.commit_book.proofs.EarlyReturns.{never_ok, same_books, hands_on, done_freely, calm-install, leaves-checked}
use Rattle.commit_book.proofs.book.Book.install.Goals as goal

pub returns-in_err-check_install-clause-any_moment : goal.returns-in_err-check_install-clause-any_moment
returns-in_err-check_install-clause-any_moment g c =
    rw (← c.self.view_is)
    (leaves-quiet g.D.LogDisk.drive g.I.Index.WIDTH c.self.inside.opening c.self.inside.history.entries _ c.self.inside.journal g.met.D.LogDisk.keeps_laws c.self.invariant.on_log)

pub divide-requires-clause-can : goal.divide-requires-clause-can
divide-requires-clause-can g c =
    let w = g.I.Index.WIDTH in
    let p = c.args.prepared.now in
    let b = c.self.inside in
    let o = b.opening in
    let h = b.history.entries in
    let s = state_after w o h in
    let may : MayInstall w (book_of b) p.number p.name p.base = may_install w (book_of b) p.number p.name p.base c.self.invariant.few (passed _ _ (rw (← c.self.view_is) at c.in_ok-check_install.ensures)) in
    let open_one : split_name s.splits p.number ≡ Some p.name = is_open-name s.splits p.number p.name may.is_open_one in
    let number : c.number-number.result ≡ p.number = c.number-number.ensures in
    let some : 0 < length b.splits.splits = some_open b.splits.splits p.number p.name (ap (λ (os : List OpenSplit). split_name os p.number) c.self.invariant.splits ∙ open_one) in
    can_step g.D.LogDisk.drive w o b b.history (lost.Install c.number-number.result) (cell.Install c.number-number.result) refl c.self.invariant may.may.going may.may.room refl
    (omega (arith, some, c.self.invariant.room may.may.going))

pub divide-requires-clause-leaf : goal.divide-requires-clause-leaf
divide-requires-clause-leaf g c =
    let w = g.I.Index.WIDTH in
    let p = c.args.prepared.now in
    let b = c.self.inside in
    let o = b.opening in
    let h = b.history.entries in
    let s = state_after w o h in
    let may : MayInstall w (book_of b) p.number p.name p.base = may_install w (book_of b) p.number p.name p.base c.self.invariant.few (passed _ _ (rw (← c.self.view_is) at c.in_ok-check_install.ensures)) in
    let open_one : split_name s.splits p.number ≡ Some p.name = is_open-name s.splits p.number p.name may.is_open_one in
    let number : c.number-number.result ≡ p.number = c.number-number.ensures in
    let it : Based b.table.leaves p.name p.base = has_base-leaf b.table.leaves p.name p.base may.has in
    rw c.name-name.ensures.name (record { leaf = it.leaf; named = it.named; short = subst (λ n. length p.name + n ≤ 64) c.requires c.name-name.ensures.prepared.short; cut_is = c.children.ensures.children ∙ c.children.ensures.prepared.children ∙ (λ i. cut (c.requires i) p.name (sym it.same i)) })

pub invariant_of-self : goal.invariant_of-self
invariant_of-self g c =
    let w = g.I.Index.WIDTH in
    let p = c.args.prepared.now in
    let b = c.self.inside in
    let o = b.opening in
    let h = b.history.entries in
    let s = state_after w o h in
    let may : MayInstall w (book_of b) p.number p.name p.base = may_install w (book_of b) p.number p.name p.base c.self.invariant.few (passed _ _ (rw (← c.self.view_is) at c.in_ok-check_install.ensures)) in
    let open_one : split_name s.splits p.number ≡ Some p.name = is_open-name s.splits p.number p.name may.is_open_one in
    let number : c.number-number.result ≡ p.number = c.number-number.ensures in
    let found : split_name s.splits c.number-number.result ≡ Some p.name = ap (split_name s.splits) number ∙ open_one in
    let step = install_step w o h c.self.invariant.legal may.may.going c.number-number.result p.name found in
    inside-undone g.D.LogDisk.drive w o b c.self.invariant may.may.going (Unit {0}) c.divide.new.self b.splits o b.history.room c.in-Err.undone _ c.divide.new.commit may.may.few step
    refl refl (c.self.invariant.room may.may.going) c.in-Err.ensures.err refl refl c.in-Err.ensures.told

pub returns-in-Err-clause-any_moment : goal.returns-in-Err-clause-any_moment
returns-in-Err-clause-any_moment g c =
    let w = g.I.Index.WIDTH in
    let p = c.args.prepared.now in
    let b = c.self.inside in
    let o = b.opening in
    let h = b.history.entries in
    let s = state_after w o h in
    let may : MayInstall w (book_of b) p.number p.name p.base = may_install w (book_of b) p.number p.name p.base c.self.invariant.few (passed _ _ (rw (← c.self.view_is) at c.in_ok-check_install.ensures)) in
    let open_one : split_name s.splits p.number ≡ Some p.name = is_open-name s.splits p.number p.name may.is_open_one in
    let number : c.number-number.result ≡ p.number = c.number-number.ensures in
    let found : split_name s.splits c.number-number.result ≡ Some p.name = ap (split_name s.splits) number ∙ open_one in
    let step = install_step w o h c.self.invariant.legal may.may.going c.number-number.result p.name found in
    rw (← c.self.view_is) (λ none.
    subst (λ n. LeavesEither g.D.LogDisk.drive w o h (Install n) b.journal c.divide.new.commit.journal.now) number
    (moments-undone g.D.LogDisk.drive w o b c.self.invariant may.may.going (Unit {0}) g.met.D.LogDisk.keeps_laws b.history.room c.in-Err.undone _ c.divide.new.commit step refl refl c.in-Err.ensures.told))

pub invariant_of-self-2 : goal.invariant_of-self-2
invariant_of-self-2 g c =
    let w = g.I.Index.WIDTH in
    let p = c.args.prepared.now in
    let b = c.self.inside in
    let o = b.opening in
    let h = b.history.entries in
    let s = state_after w o h in
    let may : MayInstall w (book_of b) p.number p.name p.base = may_install w (book_of b) p.number p.name p.base c.self.invariant.few (passed _ _ (rw (← c.self.view_is) at c.in_ok-check_install.ensures)) in
    let open_one : split_name s.splits p.number ≡ Some p.name = is_open-name s.splits p.number p.name may.is_open_one in
    let number : c.number-number.result ≡ p.number = c.number-number.ensures in
    let found : split_name s.splits c.number-number.result ≡ Some p.name = ap (split_name s.splits) number ∙ open_one in
    let step = install_step w o h c.self.invariant.legal may.may.going c.number-number.result p.name found in
    let it = taken g.D.LogDisk.drive w o b c.self.invariant may.may.going b.history.room _ c.divide.new.commit step refl refl c.in_default.ensures.told in
    let open_here : split_name b.splits.splits p.number ≡ Some p.name = ap (λ (os : List OpenSplit). split_name os p.number) c.self.invariant.splits ∙ open_one in
    let divides : Divides w p.name b.table.leaves c.divide.new.self.leaves = subst (λ (nm : List Bool). Divides w nm b.table.leaves c.divide.new.self.leaves) c.name-name.ensures.name c.in_default.ensures.divides in
    inside-install g.D.LogDisk.drive w o b _ c.self.invariant may.may.going it.keeps it.since it.kept p.number p.name may.may.few c.len-told.ensures.leaves divides open_here
    (ap names_of divides.leaves ∙ names_of-divided w p.name divides.leaf.bucket.rows b.table.leaves)
    (it.entries ∙ ap (λ n. h ++ Install n ∷ []) number) (omega (arith, it.room)) (ap (λ (t : TableView). t.world) c.in_default.ensures.rest)
    (c.remove.ensures.splits ∙ ap (λ n. without_number n b.splits.splits) number) c.remove.ensures.begun

pub returns-in-Err-clause-refused : goal.returns-in-Err-clause-refused
returns-in-Err-clause-refused g c = rw c.fault_of.ensures (refused_freely _ _ c.in-Err.undone c.written-cell.result (passed _ _ c.in_ok-check_install.ensures))

pub returns-in-Err-clause-err : goal.returns-in-Err-clause-err
returns-in-Err-clause-err g c =
    let w = g.I.Index.WIDTH in
    let p = c.args.prepared.now in
    let b = c.self.inside in
    let may : MayInstall w (book_of b) p.number p.name p.base = may_install w (book_of b) p.number p.name p.base c.self.invariant.few (passed _ _ (rw (← c.self.view_is) at c.in_ok-check_install.ensures)) in
    let it =
    refused-undone g.D.LogDisk.drive w b.opening b c.self.invariant may.may.going (Unit {0}) c.divide.new.self b.history.room c.written-cell.result c.in-Err.undone _ c.divide.new.commit
    refl refl c.in-Err.ensures.err tt c.written-cell.ensures c.in-Err.ensures.told in
    rw (← c.self.view_is) (rw (c.fault_of.ensures, ← c.number-number.ensures) it)

pub returns-clause-book : goal.returns-clause-book
returns-clause-book g c =
    record {
      before = c.keep.ensures;
      after = c.keep-2.ensures;
      origin = rw (← c.self.view_is) (record { opening = refl; bucket = ap (λ (t : TableView). t.size) c.in_default.ensures.rest; log = c.in_default.ensures.told.ends.since; kept = ap (λ (v : Events). v.kept) c.in_default.ensures.told.ends.events });
    }

pub returns-in_err-check_install-clause-refused : goal.returns-in_err-check_install-clause-refused
returns-in_err-check_install-clause-refused g c = hands_on (Unit {0}) IsMemoryOrDisk _ c.in_err-check_install.field-0.0 _ c.in_err-check_install.ensures c.from_residual.ensures.1

pub returns-in_err-check_install-clause-err : goal.returns-in_err-check_install-clause-err
returns-in_err-check_install-clause-err g c =
    leaves-checked g.D.LogDisk.drive (lost.Install c.args.prepared.now.number) _ _ refl (Unit {0}) _ c.in_err-check_install.field-0.0 c.from_residual.result (calm-install g.I.Index.WIDTH c.args.self.now c.args.prepared.now.number c.args.prepared.now.name c.args.prepared.now.base) c.in_err-check_install.ensures c.from_residual.ensures.1

pub returns-in_err-check_install-clause-book : goal.returns-in_err-check_install-clause-book
returns-in_err-check_install-clause-book g c = same_books g.D.LogDisk.drive g.I.Index.WIDTH _ _ refl c.keep.ensures

pub returns-in-Err-clause-book : goal.returns-in-Err-clause-book
returns-in-Err-clause-book g c =
    record {
      before = c.keep.ensures;
      after = c.keep-in-Err.ensures;
      origin = rw (← c.self.view_is) (record { opening = refl; bucket = ap (λ (t : TableView). t.size) c.in-Err.ensures.err; log = since-undone g.D.LogDisk.drive (Unit {0}) _ c.in-Err.undone _ c.divide.new.commit refl c.in-Err.ensures.told; kept = kind-undone g.D.LogDisk.drive (Unit {0}) c.self.inside.history c.in-Err.undone _ c.divide.new.commit refl c.in-Err.ensures.told });
    }

pub returns-clause-refused : goal.returns-clause-refused
returns-clause-refused g c = done_freely IsMemoryOrDisk _ _ (passed _ _ c.in_ok-check_install.ensures)

pub returns-clause-ok : goal.returns-clause-ok
returns-clause-ok g c =
    let w = g.I.Index.WIDTH in
    let p = c.args.prepared.now in
    let b = c.self.inside in
    let o = b.opening in
    let h = b.history.entries in
    let s = state_after w o h in
    let may : MayInstall w (book_of b) p.number p.name p.base = may_install w (book_of b) p.number p.name p.base c.self.invariant.few (passed _ _ (rw (← c.self.view_is) at c.in_ok-check_install.ensures)) in
    let open_one : split_name s.splits p.number ≡ Some p.name = is_open-name s.splits p.number p.name may.is_open_one in
    let number : c.number-number.result ≡ p.number = c.number-number.ensures in
    let found : split_name s.splits c.number-number.result ≡ Some p.name = ap (split_name s.splits) number ∙ open_one in
    let step = install_step w o h c.self.invariant.legal may.may.going c.number-number.result p.name found in
    let it = taken g.D.LogDisk.drive w o b c.self.invariant may.may.going b.history.room _ c.divide.new.commit step refl refl c.in_default.ensures.told in
    let divides : Divides w p.name b.table.leaves c.divide.new.self.leaves = subst (λ (nm : List Bool). Divides w nm b.table.leaves c.divide.new.self.leaves) c.name-name.ensures.name c.in_default.ensures.divides in
    rw (← c.self.view_is) (record { entries = it.entries ∙ ap (λ n. h ++ Install n ∷ []) number; divides = divides })

pub returns-clause-any_moment : goal.returns-clause-any_moment
returns-clause-any_moment g c =
    let w = g.I.Index.WIDTH in
    let p = c.args.prepared.now in
    let b = c.self.inside in
    let o = b.opening in
    let h = b.history.entries in
    let s = state_after w o h in
    let may : MayInstall w (book_of b) p.number p.name p.base = may_install w (book_of b) p.number p.name p.base c.self.invariant.few (passed _ _ (rw (← c.self.view_is) at c.in_ok-check_install.ensures)) in
    let open_one : split_name s.splits p.number ≡ Some p.name = is_open-name s.splits p.number p.name may.is_open_one in
    let number : c.number-number.result ≡ p.number = c.number-number.ensures in
    let found : split_name s.splits c.number-number.result ≡ Some p.name = ap (split_name s.splits) number ∙ open_one in
    let step = install_step w o h c.self.invariant.legal may.may.going c.number-number.result p.name found in
    let it = taken g.D.LogDisk.drive w o b c.self.invariant may.may.going b.history.room _ c.divide.new.commit step refl refl c.in_default.ensures.told in
    rw (← c.self.view_is) (λ none. subst (λ n. LeavesEither g.D.LogDisk.drive w o h (Install n) b.journal c.divide.new.commit.journal.now) number it.moments)

pub returns-in_err-check_install-clause-ok : goal.returns-in_err-check_install-clause-ok
returns-in_err-check_install-clause-ok g c = never_ok c.from_residual.result _ c.from_residual.ensures.0
