use Rattle.std.proofs.Common.{sym, ap, ◌∙◌}
use Rattle.std.specs.Prelude.{◌&&◌}
use Rattle.plain_list.specs.World.{World}
use Rattle.plain_list.specs.Answer.{answer_of, is_change}
use Rattle.plain_list.proofs.Histories.{state_after-world}
use Rattle.commit_book.proofs.RefusalLemmas.{passed}
use Rattle.commit_book.proofs.UpdateCalls.{changes, told_full, has_cell}
use Rattle.commit_book.specs.BookInside.{book_of}
use Rattle.commit_book.proofs.book.Book.check_update.Goals.{else-is_full-via-then-is_full+else-would_change, else-is_full-via-else-is_full}
use Rattle.commit_book.proofs.book.Book.check_update.Goals as goal

pub returns-then-would_change : goal.returns-then-would_change
returns-then-would_change g c =
    let world = c.self.invariant.world ∙ state_after-world g.I.Index.WIDTH c.self.inside.opening c.self.inside.history.entries in
    rw (← c.self.view_is)
    (told_full (book_of c.self.inside) c.args.op.now (passed {A = Unit {0}} _ tt (rw (← c.self.view_is) at c.in_ok-check_call.ensures)) (sym c.if-is_full.ensures)
    (ap (λ (ms : World). is_change (answer_of ms c.args.op.now)) (sym world) ∙ sym c.if-would_change.ensures))

pub returns : goal.returns
returns g c =
    let world = c.self.invariant.world ∙ state_after-world g.I.Index.WIDTH c.self.inside.opening c.self.inside.history.entries in
    rw (← c.self.view_is)
    (has_cell (book_of c.self.inside) c.args.op.now (passed {A = Unit {0}} _ tt (rw (← c.self.view_is) at c.in_ok-check_call.ensures))
    (elim c.else-is_full.branch [
      | else-is_full-via-then-is_full+else-would_change w ↦
          (λ i. sym w.if-is_full.ensures i && (ap (λ (ms : World). is_change (answer_of ms c.args.op.now)) (sym world) ∙ sym w.if-would_change.ensures) i)
      | else-is_full-via-else-is_full w ↦ ap (λ b. b && changes (book_of c.self.inside) c.args.op.now) (sym w.if-is_full.ensures)
    ]))
