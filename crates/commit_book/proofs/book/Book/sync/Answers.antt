use Rattle.std.proofs.Common.{◌≡◌, [], ◌∷◌, ◌++◌, length, refl, sym, ap, subst, ◌∙◌, arith}
use Rattle.plain_list.specs.declared.entries.Entry.{Entry}
use Rattle.plain_list.specs.declared.entries.Entry.TheVariants.{Fail}
use Rattle.plain_list.proofs.SplitHistories.{open-le}
use Rattle.kept_log.specs.Journal.{KeepsIn}
use Rattle.kept_log.proofs.InJournal.{leaves-still}
use Rattle.kept_log.proofs.Waiting.{in-failed}
use Rattle.commit_book.specs.Events.{Events}
use Rattle.commit_book.specs.Syncs.{lost_sync}
use Rattle.commit_book.proofs.BookStates.{inside-fail}
use Rattle.commit_book.proofs.Limits.{most-le}
use Rattle.commit_book.proofs.RefusalLemmas.{MayCall, may_call, passed}
use Rattle.commit_book.proofs.book.Book.sync.Goals as goal

pub returns-in_err-check_call-clause-any_moment : goal.returns-in_err-check_call-clause-any_moment
returns-in_err-check_call-clause-any_moment g c =
    rw (← c.self.view_is)
    (leaves-still g.D.LogDisk.drive g.I.Index.WIDTH c.self.inside.opening c.self.inside.history.entries _ c.self.inside.journal g.met.D.LogDisk.keeps_laws c.self.invariant.on_log)

pub returns-then-waiting-eq0-clause-any_moment : goal.returns-then-waiting-eq0-clause-any_moment
returns-then-waiting-eq0-clause-any_moment g c =
    rw (← c.self.view_is)
    (leaves-still g.D.LogDisk.drive g.I.Index.WIDTH c.self.inside.opening c.self.inside.history.entries _ c.self.inside.journal g.met.D.LogDisk.keeps_laws c.self.invariant.on_log)

pub overflow_add-len : goal.overflow_add-len
overflow_add-len g c =
    let h = c.self.inside.history.entries in
    omega (arith, c.len.ensures, ap length c.self.invariant.splits, open-le g.I.Index.WIDTH c.self.inside.opening h, ap length c.self.invariant.opening.rests, c.self.invariant.few, most-le c.self.inside.history.kept)

pub reserve-requires : goal.reserve-requires
reserve-requires g c =
    let h = c.self.inside.history.entries in
    omega (arith, c.len.ensures, ap length c.self.invariant.splits, open-le g.I.Index.WIDTH c.self.inside.opening h, ap length c.self.invariant.opening.rests, c.self.invariant.few, most-le c.self.inside.history.kept)

pub returns-in_err-reserve-clause-any_moment : goal.returns-in_err-reserve-clause-any_moment
returns-in_err-reserve-clause-any_moment g c =
    rw (← c.self.view_is)
    (leaves-still g.D.LogDisk.drive g.I.Index.WIDTH c.self.inside.opening c.self.inside.history.entries _ c.self.inside.journal g.met.D.LogDisk.keeps_laws c.self.invariant.on_log)

pub sync-requires : goal.sync-requires
sync-requires g c =
    let b = c.self.inside in
    let h = b.history.entries in
    let may : MayCall b.history.kept h = may_call b.history.kept h c.self.invariant.few (passed _ _ (rw (← c.self.view_is) at c.in_ok-check_call.ensures)) in
    record { «open» = in-failed g.D.LogDisk.drive g.I.Index.WIDTH b.opening h b.journal c.self.invariant.on_log ∙ may.going }

pub invariant_of-self-in-Err : goal.invariant_of-self-in-Err
invariant_of-self-in-Err g c =
    let w = g.I.Index.WIDTH in
    let drive = g.D.LogDisk.drive in
    let b = c.self.inside in
    let h = b.history.entries in
    let missed = c.in-Err.ensures.lost in
    let e : Entry = Fail c.in-Err.at.cell lost_sync in
    let may : MayCall b.history.kept h = may_call b.history.kept h c.self.invariant.few (passed _ _ (rw (← c.self.view_is) at c.in_ok-check_call.ensures)) in
    let entries : c.push.new.self.entries ≡ h ++ e ∷ [] = ap (λ (v : Events). v.entries) c.push.ensures ∙ ap (λ (v : Events). v.entries ++ e ∷ []) c.in_ok-reserve.ensures.ok in
    inside-fail drive w b.opening b _ c.self.invariant may.going
    (subst (λ g. KeepsIn drive w b.opening g c.sync.new.self) (sym entries) (missed.keeps w b.opening h lost_sync c.self.invariant.legal c.self.invariant.on_log))
    c.sync.ensures.since (ap (λ (v : Events). v.kept) c.push.ensures ∙ ap (λ (v : Events). v.kept) c.in_ok-reserve.ensures.ok) c.in-Err.at.cell lost_sync may.few entries refl refl refl refl
