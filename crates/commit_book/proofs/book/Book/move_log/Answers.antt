use Rattle.std.proofs.Common.{◌≡◌, ◌-◌, true, List, None, sym, ap, subst, ◌∙◌, arith}
use Rattle.plain_list.specs.declared.entries.Entry.{Entry}
use Rattle.plain_list.specs.State.{State, state_after}
use Rattle.plain_list.proofs.Histories.{state_after-world}
use Rattle.kept_log.specs.Kept.{IsOpened, found_state}
use Rattle.kept_log.specs.Moved.{fewer}
use Rattle.kept_log.specs.Journal.{KeepsIn, moves_in}
use Rattle.kept_log.specs.Counts.{first_in}
use Rattle.commit_book.specs.BookInside.{book_of}
use Rattle.commit_book.specs.BookView.{BookView}
use Rattle.commit_book.specs.Moves.{move_refusal}
use Rattle.commit_book.specs.Rotation.{HasContent}
use Rattle.commit_book.proofs.Moved.{MayMove, may_move, found-fewer, first-moved, inside-moved}
use Rattle.commit_book.proofs.book.Book.move_log.Goals as goal

pub invariant_of-self : goal.invariant_of-self
invariant_of-self g c =
    let w = g.I.Index.WIDTH in
    let drive = g.D.LogDisk.drive in
    let b = c.self.inside in
    let o = b.opening in
    let h = b.history.entries in
    let s = state_after w o h in
    let seen = c.args.opened.seen in
    let log = c.args.opened.log in
    let start = c.args.opened.start.value in
    let new = c.move_to-log.new.self in
    let none : move_refusal w (book_of b) seen.begun ≡ None =
    subst (λ (v : BookView g.row.D.Denot). move_refusal w v seen.begun ≡ None) (sym c.self.view_is) (sym c.move_refusal.ensures ∙ c.in_default.is) in
    let may : MayMove s h seen.begun = may_move s h seen.begun none in
    let content : HasContent w (book_of b) seen = subst (λ (v : BookView g.row.D.Denot). HasContent w v seen) (sym c.self.view_is) c.requires.content in
    let moves : moves_in b.journal ≡ true = subst (λ (v : BookView g.row.D.Denot). moves_in v.log ≡ true) (sym c.self.view_is) c.requires.moves in
    let found : found_state seen ≡ fewer (s.begun - seen.begun) s =
    found-fewer seen s (content.world ∙ sym (state_after-world w o h)) content.leaves may.rests may.least in
    let opened : IsOpened w (fewer (s.begun - seen.begun) s) (drive start) (drive log.disk) =
    subst (λ (t : State). IsOpened w t (drive start) (drive log.disk)) found c.requires.opened.ready in
    let past : c.past-past.result.entries ≡ h = c.past-past.ensures in
    let begun = c.begun.ensures ∙ c.self.invariant.begun in
    let kept =
    c.move_to-log.ensures.keeps w o moves (rw past may.going) c.requires.opened.good (rw past may.rests) (rw (past, begun) (omega arith))
    (rw (past, begun) opened) in
    inside-moved drive w o b new c.self.invariant (ap first_in c.move_to-log.ensures.moved ∙ first-moved _ _ log start b.journal)
    (subst (λ (es : List Entry). KeepsIn drive w o es new) past kept)
