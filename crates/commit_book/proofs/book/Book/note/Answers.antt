use Rattle.std.proofs.Common.{◌≡◌, ◌≤◌, List, [], ◌∷◌, ◌++◌, length, refl, sym, ap, subst, ◌∙◌, arith}
use Rattle.plain_list.specs.declared.entries.Entry.{Entry}
use Rattle.plain_list.specs.declared.entries.Entry.TheVariants.{Call}
use Rattle.plain_list.proofs.Histories.{has_failed-none}
use Rattle.kept_log.specs.Journal.{KeepsIn}
use Rattle.commit_book.specs.Events.{Events}
use Rattle.commit_book.proofs.BookStates.{inside-call, steps_on}
use Rattle.commit_book.proofs.BookSteps.{query_keeps}
use Rattle.commit_book.proofs.Limits.{most-le}
use Rattle.commit_book.proofs.RefusalLemmas.{MayCall, may_call, passed}
use Rattle.plain_list.proofs.SplitHistories.{open-le}
use Rattle.commit_book.proofs.Undone.{inside-reserved}
use Rattle.commit_book.proofs.UpdateCalls.{keeps-query}
use Rattle.commit_book.specs.Refusals.{IsMemory}
use Rattle.commit_book.proofs.EarlyReturns.{never_ok, since-same, same_books, if_any, hands_on, no_memory, done_freely}
use Rattle.commit_book.proofs.book.Book.note.Goals as goal

pub overflow_add-len : goal.overflow_add-len
overflow_add-len g c =
    let h = c.self.inside.history.entries in
    omega (arith, c.len.ensures, ap length c.self.invariant.splits, open-le g.I.Index.WIDTH c.self.inside.opening h, ap length c.self.invariant.opening.rests, c.self.invariant.few, most-le c.self.inside.history.kept)

pub reserve-requires : goal.reserve-requires
reserve-requires g c =
    let h = c.self.inside.history.entries in
    omega (arith, c.len.ensures, ap length c.self.invariant.splits, open-le g.I.Index.WIDTH c.self.inside.opening h, ap length c.self.invariant.opening.rests, c.self.invariant.few, most-le c.self.inside.history.kept)

pub invariant_of-self-2 : goal.invariant_of-self-2
invariant_of-self-2 g c =
    let w = g.I.Index.WIDTH in
    let drive = g.D.LogDisk.drive in
    let o = c.self.inside.opening in
    let h = c.self.inside.history.entries in
    let op = c.args.op.now in
    let e : Entry = Call c.args.session c.args.row op in
    let may : MayCall c.self.inside.history.kept h = may_call c.self.inside.history.kept h c.self.invariant.few (passed _ _ (rw (← c.self.view_is) at c.in_ok-check_call.ensures)) in
    let steps = steps_on w o h e c.self.invariant.legal (has_failed-none h may.going) refl in
    let entries : c.push.new.self.entries ≡ h ++ e ∷ [] = ap (λ (v : Events). v.entries) c.push.ensures ∙ ap (λ (v : Events). v.entries ++ e ∷ []) c.in_ok-reserve.ensures.ok in
    let room : length c.self.inside.splits.splits ≤ c.push.new.self.room = omega (arith, ap (λ (v : Events). v.room) c.push.ensures, ap (λ (v : Events). v.room) c.in_ok-reserve.ensures.ok, c.len.ensures) in
    let kept = keeps-query drive w o h c.args.session c.args.row op c.self.inside.journal c.requires steps.legal c.self.invariant.on_log in
    inside-call drive w o c.self.inside _ c.self.invariant may.going (subst (λ (g : List Entry). KeepsIn drive w o g c.self.inside.journal) (sym entries) kept) (since-same c.self.inside.journal)
    (ap (λ (v : Events). v.kept) c.push.ensures ∙ ap (λ (v : Events). v.kept) c.in_ok-reserve.ensures.ok) c.args.session c.args.row op may.few entries room
    (sym (query_keeps op c.self.inside.table.world c.requires)) refl refl

pub returns-in_err-check_call-clause-refused : goal.returns-in_err-check_call-clause-refused
returns-in_err-check_call-clause-refused g c = hands_on (Unit {0}) IsMemory _ c.in_err-check_call.field-0.0 _ c.in_err-check_call.ensures c.from_residual.ensures.1

pub returns-in_err-check_call-clause-err : goal.returns-in_err-check_call-clause-err
returns-in_err-check_call-clause-err g c = if_any c.from_residual.result _ refl

pub returns-in_err-check_call-clause-book : goal.returns-in_err-check_call-clause-book
returns-in_err-check_call-clause-book g c = same_books g.D.LogDisk.drive g.I.Index.WIDTH _ _ refl c.keep.ensures

pub returns-in_err-reserve-clause-refused : goal.returns-in_err-reserve-clause-refused
returns-in_err-reserve-clause-refused g c = no_memory IsMemory _ _ refl (passed _ _ c.in_ok-check_call.ensures) c.from_residual-in_err-reserve.ensures.1

pub returns-in_err-reserve-clause-err : goal.returns-in_err-reserve-clause-err
returns-in_err-reserve-clause-err g c =
    let b = c.self.inside in
    if_any c.from_residual-in_err-reserve.result _ ((λ i. record { leaves = b.table.leaves; opening = b.opening; entries = (c.in_err-reserve.ensures.err i).entries; bucket = b.table.size; log = b.journal; kept = (c.in_err-reserve.ensures.err i).kept }) ∙ c.self.view_is)

pub returns-in_err-reserve-clause-book : goal.returns-in_err-reserve-clause-book
returns-in_err-reserve-clause-book g c =
    let b = c.self.inside in
    same_books g.D.LogDisk.drive g.I.Index.WIDTH _ _ ((λ i. record { leaves = b.table.leaves; opening = b.opening; entries = (c.in_err-reserve.ensures.err i).entries; bucket = b.table.size; log = b.journal; kept = (c.in_err-reserve.ensures.err i).kept }) ∙ c.self.view_is) c.keep.ensures

pub returns-clause-ok : goal.returns-clause-ok
returns-clause-ok g c =
    let e : Entry = Call c.args.session c.args.row c.args.op.now in
    rw (← c.self.view_is) (record {
      entries = ap (λ (v : Events). v.entries) c.push.ensures ∙ ap (λ (v : Events). v.entries ++ e ∷ []) c.in_ok-reserve.ensures.ok;
      place_is = c.calls-place.ensures;
    })

pub returns-clause-leaves : goal.returns-clause-leaves
returns-clause-leaves g c = ap (λ v. v.leaves) c.self.view_is

pub returns-clause-refused : goal.returns-clause-refused
returns-clause-refused g c = done_freely IsMemory _ _ (passed _ _ c.in_ok-check_call.ensures)

pub returns-clause-book : goal.returns-clause-book
returns-clause-book g c =
    record {
      before = c.keep.ensures;
      after = c.keep-2.ensures;
      origin = rw (← c.self.view_is) (record {
        opening = refl;
        bucket = refl;
        log = since-same c.self.inside.journal;
        kept = ap (λ (v : Events). v.kept) c.push.ensures ∙ ap (λ (v : Events). v.kept) c.in_ok-reserve.ensures.ok;
      });
    }

pub invariant_of-self : goal.invariant_of-self
invariant_of-self g c = inside-reserved g.D.LogDisk.drive g.I.Index.WIDTH _ c.self.inside _ c.reserve.new.self _ c.self.invariant refl refl c.in_err-reserve.ensures.err c.self.invariant.room

pub push-requires-clause-few : goal.push-requires-clause-few
push-requires-clause-few g c = omega (arith, ap (λ (v : Events). length v.entries) c.in_ok-reserve.ensures.ok, c.self.invariant.few, most-le c.self.inside.history.kept)

pub push-requires-clause-room : goal.push-requires-clause-room
push-requires-clause-room g c = omega (arith, ap (λ (v : Events). v.room) c.in_ok-reserve.ensures.ok)

pub returns-in_err-check_call-clause-ok : goal.returns-in_err-check_call-clause-ok
returns-in_err-check_call-clause-ok g c = never_ok c.from_residual.result _ c.from_residual.ensures.0

pub returns-in_err-reserve-clause-ok : goal.returns-in_err-reserve-clause-ok
returns-in_err-reserve-clause-ok g c = never_ok c.from_residual-in_err-reserve.result _ c.from_residual-in_err-reserve.ensures.0
