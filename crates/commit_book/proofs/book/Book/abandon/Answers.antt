use Rattle.std.proofs.Common.{◌≡◌, ◌<◌, List, Some, length, refl, ap, ◌∙◌, arith}
use Rattle.bucket_versions.specs.declared.commit.Undone.TheVariants as undone
use Rattle.cell_format.specs.declared.cell.Cell.TheVariants as cell
use Rattle.plain_list.specs.declared.entries.Lost.TheVariants as lost
use Rattle.plain_list.specs.State.{OpenSplit, split_name, state_after}
use Rattle.kept_log.proofs.InJournal.{leaves-quiet}
use Rattle.commit_book.specs.BookInside.{book_of}
use Rattle.commit_book.specs.Refusals.{IsDisk}
use Rattle.commit_book.specs.Events.{Events}
use Rattle.commit_book.proofs.BookStates.{inside-abandon}
use Rattle.commit_book.proofs.RefusalLemmas.{MayAbandon, may_abandon, passed, some_of}
use Rattle.commit_book.proofs.SplitCells.{abandon_step, some_open}
use Rattle.commit_book.proofs.Undone.{can_step, inside-undone, moments-undone, refused-undone, taken}
use Rattle.commit_book.proofs.EarlyReturns.{never_ok, same_books, hands_on, done_freely, lost_freely, calm-abandon, leaves-checked}
use Rattle.commit_book.proofs.book.Book.abandon.Goals as goal

pub returns-in_err-check_abandon-clause-any_moment : goal.returns-in_err-check_abandon-clause-any_moment
returns-in_err-check_abandon-clause-any_moment g c =
    rw (← c.self.view_is)
    (leaves-quiet g.D.LogDisk.drive g.I.Index.WIDTH c.self.inside.opening c.self.inside.history.entries _ c.self.inside.journal g.met.D.LogDisk.keeps_laws c.self.invariant.on_log)

pub commit-requires : goal.commit-requires
commit-requires g c =
    let w = g.I.Index.WIDTH in
    let number = c.args.number in
    let b = c.self.inside in
    let s = state_after w b.opening b.history.entries in
    let may : MayAbandon w (book_of b) number = may_abandon w (book_of b) number c.self.invariant.few (passed _ _ (rw (← c.self.view_is) at c.in_ok-check_abandon.ensures)) in
    let name = some_of (split_name s.splits number) may.is_open_one in
    let some : 0 < length b.splits.splits = some_open b.splits.splits number name.0 (ap (λ (os : List OpenSplit). split_name os number) c.self.invariant.splits ∙ name.1) in
    can_step g.D.LogDisk.drive w b.opening b b.history (lost.Abandon number) (cell.Abandon number) refl c.self.invariant may.may.going may.may.room refl
    (omega (arith, some, c.self.invariant.room may.may.going))

pub invariant_of-self : goal.invariant_of-self
invariant_of-self g c =
    let w = g.I.Index.WIDTH in
    let number = c.args.number in
    let b = c.self.inside in
    let s = state_after w b.opening b.history.entries in
    let may : MayAbandon w (book_of b) number = may_abandon w (book_of b) number c.self.invariant.few (passed _ _ (rw (← c.self.view_is) at c.in_ok-check_abandon.ensures)) in
    let name = some_of (split_name s.splits number) may.is_open_one in
    inside-undone g.D.LogDisk.drive w b.opening b c.self.invariant may.may.going (Unit {0}) b.table b.splits b.opening b.history.room undone.Lost _ c.commit.new.self may.may.few
    (abandon_step w b.opening b.history.entries c.self.invariant.legal may.may.going number name.0 name.1) refl refl (c.self.invariant.room may.may.going) refl refl refl (c.if-not-commit.ensures.lost refl)

pub returns-then-not-commit-clause-any_moment : goal.returns-then-not-commit-clause-any_moment
returns-then-not-commit-clause-any_moment g c =
    let w = g.I.Index.WIDTH in
    let number = c.args.number in
    let b = c.self.inside in
    let s = state_after w b.opening b.history.entries in
    let may : MayAbandon w (book_of b) number = may_abandon w (book_of b) number c.self.invariant.few (passed _ _ (rw (← c.self.view_is) at c.in_ok-check_abandon.ensures)) in
    let name = some_of (split_name s.splits number) may.is_open_one in
    rw (← c.self.view_is) (λ none.
    moments-undone g.D.LogDisk.drive w b.opening b c.self.invariant may.may.going (Unit {0}) g.met.D.LogDisk.keeps_laws b.history.room undone.Lost _ c.commit.new.self
    (abandon_step w b.opening b.history.entries c.self.invariant.legal may.may.going number name.0 name.1) refl refl (c.if-not-commit.ensures.lost refl))

pub invariant_of-self-2 : goal.invariant_of-self-2
invariant_of-self-2 g c =
    let w = g.I.Index.WIDTH in
    let number = c.args.number in
    let b = c.self.inside in
    let s = state_after w b.opening b.history.entries in
    let may : MayAbandon w (book_of b) number = may_abandon w (book_of b) number c.self.invariant.few (passed _ _ (rw (← c.self.view_is) at c.in_ok-check_abandon.ensures)) in
    let name = some_of (split_name s.splits number) may.is_open_one in
    let found : split_name b.splits.splits number ≡ Some name.0 = ap (λ (os : List OpenSplit). split_name os number) c.self.invariant.splits ∙ name.1 in
    let it =
    taken g.D.LogDisk.drive w b.opening b c.self.invariant may.may.going b.history.room _ c.commit.new.self
    (abandon_step w b.opening b.history.entries c.self.invariant.legal may.may.going number name.0 name.1) refl refl (c.if-not-commit.ensures.done refl) in
    inside-abandon g.D.LogDisk.drive w b.opening b _ c.self.invariant may.may.going it.keeps it.since it.kept number name.0 may.may.few found refl it.entries (omega (arith, it.room)) c.remove.ensures.splits c.remove.ensures.begun

pub returns-in_err-check_abandon-clause-refused : goal.returns-in_err-check_abandon-clause-refused
returns-in_err-check_abandon-clause-refused g c = hands_on (Unit {0}) IsDisk _ c.in_err-check_abandon.field-0.0 _ c.in_err-check_abandon.ensures c.from_residual.ensures.1

pub returns-in_err-check_abandon-clause-err : goal.returns-in_err-check_abandon-clause-err
returns-in_err-check_abandon-clause-err g c =
    leaves-checked g.D.LogDisk.drive (lost.Abandon c.args.number) _ _ refl (Unit {0}) _ c.in_err-check_abandon.field-0.0 c.from_residual.result (calm-abandon g.I.Index.WIDTH c.args.self.now c.args.number) c.in_err-check_abandon.ensures c.from_residual.ensures.1

pub returns-in_err-check_abandon-clause-book : goal.returns-in_err-check_abandon-clause-book
returns-in_err-check_abandon-clause-book g c = same_books g.D.LogDisk.drive g.I.Index.WIDTH _ _ refl c.keep.ensures

pub returns-then-not-commit-clause-refused : goal.returns-then-not-commit-clause-refused
returns-then-not-commit-clause-refused g c = lost_freely (Unit {0}) _ c.written-cell.result (passed _ _ c.in_ok-check_abandon.ensures)

pub returns-then-not-commit-clause-err : goal.returns-then-not-commit-clause-err
returns-then-not-commit-clause-err g c =
    let w = g.I.Index.WIDTH in
    let number = c.args.number in
    let b = c.self.inside in
    let s = state_after w b.opening b.history.entries in
    let may : MayAbandon w (book_of b) number = may_abandon w (book_of b) number c.self.invariant.few (passed _ _ (rw (← c.self.view_is) at c.in_ok-check_abandon.ensures)) in
    rw (← c.self.view_is)
    (refused-undone g.D.LogDisk.drive w b.opening b c.self.invariant may.may.going (Unit {0}) b.table b.history.room c.written-cell.result undone.Lost _ c.commit.new.self
    refl refl refl tt c.written-cell.ensures (c.if-not-commit.ensures.lost refl))

pub returns-then-not-commit-clause-book : goal.returns-then-not-commit-clause-book
returns-then-not-commit-clause-book g c =
    record {
      before = c.keep.ensures;
      after = c.keep-then-not-commit.ensures;
      origin = rw (← c.self.view_is) (record { opening = refl; bucket = refl; log = (c.if-not-commit.ensures.lost refl).ends.since; kept = ap (λ (v : Events). v.kept) (c.if-not-commit.ensures.lost refl).ends.events });
    }

pub returns-clause-ok : goal.returns-clause-ok
returns-clause-ok g c =
    let w = g.I.Index.WIDTH in
    let number = c.args.number in
    let b = c.self.inside in
    let s = state_after w b.opening b.history.entries in
    let may : MayAbandon w (book_of b) number = may_abandon w (book_of b) number c.self.invariant.few (passed _ _ (rw (← c.self.view_is) at c.in_ok-check_abandon.ensures)) in
    let name = some_of (split_name s.splits number) may.is_open_one in
    let it =
    taken g.D.LogDisk.drive w b.opening b c.self.invariant may.may.going b.history.room _ c.commit.new.self
    (abandon_step w b.opening b.history.entries c.self.invariant.legal may.may.going number name.0 name.1) refl refl (c.if-not-commit.ensures.done refl) in
    rw (← c.self.view_is) (record { entries = it.entries; leaves = refl })

pub returns-clause-refused : goal.returns-clause-refused
returns-clause-refused g c = done_freely IsDisk _ _ (passed _ _ c.in_ok-check_abandon.ensures)

pub returns-clause-any_moment : goal.returns-clause-any_moment
returns-clause-any_moment g c =
    let w = g.I.Index.WIDTH in
    let number = c.args.number in
    let b = c.self.inside in
    let s = state_after w b.opening b.history.entries in
    let may : MayAbandon w (book_of b) number = may_abandon w (book_of b) number c.self.invariant.few (passed _ _ (rw (← c.self.view_is) at c.in_ok-check_abandon.ensures)) in
    let name = some_of (split_name s.splits number) may.is_open_one in
    let it =
    taken g.D.LogDisk.drive w b.opening b c.self.invariant may.may.going b.history.room _ c.commit.new.self
    (abandon_step w b.opening b.history.entries c.self.invariant.legal may.may.going number name.0 name.1) refl refl (c.if-not-commit.ensures.done refl) in
    rw (← c.self.view_is) (λ none. it.moments)

pub returns-clause-book : goal.returns-clause-book
returns-clause-book g c =
    record {
      before = c.keep.ensures;
      after = c.keep-2.ensures;
      origin = rw (← c.self.view_is) (record { opening = refl; bucket = refl; log = (c.if-not-commit.ensures.done refl).ends.since; kept = ap (λ (v : Events). v.kept) (c.if-not-commit.ensures.done refl).ends.events });
    }

pub returns-in_err-check_abandon-clause-ok : goal.returns-in_err-check_abandon-clause-ok
returns-in_err-check_abandon-clause-ok g c = never_ok c.from_residual.result _ c.from_residual.ensures.0
