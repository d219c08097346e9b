use Rattle.std.proofs.Common.{◌≡◌, ℕ, Option, [], ◌∷◌, ◌++◌, length, refl, sym, ap, subst, ◌∙◌, arith}
use Rattle.plain_list.specs.declared.entries.Entry.{Entry}
use Rattle.plain_list.specs.declared.entries.Entry.TheVariants.{Fail}
use Rattle.plain_list.proofs.SplitHistories.{open-le}
use Rattle.kept_log.specs.Journal.{KeepsIn, Stops, StopsIn}
use Rattle.kept_log.proofs.Waiting.{in-failed}
use Rattle.commit_book.specs.Events.{Events}
use Rattle.commit_book.specs.Moves.{lost_stop}
use Rattle.commit_book.proofs.BookStates.{inside-fail}
use Rattle.commit_book.proofs.Limits.{most-le}
use Rattle.commit_book.proofs.RefusalLemmas.{MayCall, may_call, passed}
use Rattle.commit_book.proofs.book.Book.stop.Goals as goal

pub overflow_add-len : goal.overflow_add-len
overflow_add-len g c =
    let h = c.self.inside.history.entries in
    omega (arith, c.len.ensures, ap length c.self.invariant.splits, open-le g.I.Index.WIDTH c.self.inside.opening h, ap length c.self.invariant.opening.rests, c.self.invariant.few, most-le c.self.inside.history.kept)

pub reserve-requires : goal.reserve-requires
reserve-requires g c =
    let h = c.self.inside.history.entries in
    omega (arith, c.len.ensures, ap length c.self.invariant.splits, open-le g.I.Index.WIDTH c.self.inside.opening h, ap length c.self.invariant.opening.rests, c.self.invariant.few, most-le c.self.inside.history.kept)

pub stop-requires-clause-open : goal.stop-requires-clause-open
stop-requires-clause-open g c =
    let b = c.self.inside in
    let h = b.history.entries in
    let may : MayCall b.history.kept h = may_call b.history.kept h c.self.invariant.few (passed _ _ (rw (← c.self.view_is) at c.in_ok-check_call.ensures)) in
    in-failed g.D.LogDisk.drive g.I.Index.WIDTH b.opening h b.journal c.self.invariant.on_log ∙ may.going

pub invariant_of-self-in-Some : goal.invariant_of-self-in-Some
invariant_of-self-in-Some g c =
    let w = g.I.Index.WIDTH in
    let drive = g.D.LogDisk.drive in
    let b = c.self.inside in
    let h = b.history.entries in
    let stops : Stops drive c.in-Some.cell b.journal c.stop.new.self = subst (λ (r : Option ℕ). StopsIn drive r b.journal c.stop.new.self) c.in-Some.is c.stop.ensures.stops in
    let e : Entry = Fail c.in-Some.cell lost_stop in
    let may : MayCall b.history.kept h = may_call b.history.kept h c.self.invariant.few (passed _ _ (rw (← c.self.view_is) at c.in_ok-check_call.ensures)) in
    let entries : c.push.new.self.entries ≡ h ++ e ∷ [] = ap (λ (v : Events). v.entries) c.push.ensures ∙ ap (λ (v : Events). v.entries ++ e ∷ []) c.in_ok-reserve.ensures.ok in
    inside-fail drive w b.opening b _ c.self.invariant may.going
    (subst (λ g. KeepsIn drive w b.opening g c.stop.new.self) (sym entries) (stops.keeps w b.opening h lost_stop c.self.invariant.legal refl c.self.invariant.on_log))
    c.stop.ensures.since (ap (λ (v : Events). v.kept) c.push.ensures ∙ ap (λ (v : Events). v.kept) c.in_ok-reserve.ensures.ok) c.in-Some.cell lost_stop may.few entries refl refl refl refl
