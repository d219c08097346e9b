use Rattle.std.proofs.Common.{ℕ, Bool, cond, List, Option, None, Some, Ok, Err, sym, ap, ◌∙◌}
use Rattle.std.specs.Prelude.{is_some}
use Rattle.plain_list.specs.State.{OpenSplit, split_name}
use Rattle.kept_log.specs.Journal.{cells_in}
use Rattle.commit_book.specs.Refusals.{end_refusal}
use Rattle.commit_book.specs.declared.faults.BookFault.{BookFault}
use Rattle.commit_book.specs.declared.faults.BookFault.TheVariants.{NotOpen}
use Rattle.commit_book.proofs.EarlyReturns.{hands_first}
use Rattle.commit_book.proofs.RefusalLemmas.{passed, refused_later, told_only, done_only}
use Rattle.commit_book.proofs.book.Book.check_abandon.Goals as goal

abbrev unless_open : ℕ → Option (List Bool) → Option BookFault
unless_open number name = cond (is_some name) None (Some (NotOpen number))

pub returns-in_err-check_end : goal.returns-in_err-check_end
returns-in_err-check_end g c = hands_first (Unit {0}) _ _ c.in_err-check_end.field-0.0 _ c.in_err-check_end.ensures c.from_residual.ensures.1

pub returns-in-None : goal.returns-in-None
returns-in-None g c =
    let number = c.args.number in
    let b = c.self.inside in
    let name = ap (λ (os : List OpenSplit). split_name os number) (sym c.self.invariant.splits) ∙ sym c.name.ensures ∙ c.in-None.is in
    rw (← c.self.view_is)
    (refused_later (end_refusal b.history.kept (cells_in b.journal) b.history.entries) _ (Err (NotOpen number)) (passed {A = Unit {0}} _ tt (rw (← c.self.view_is) at c.in_ok-check_end.ensures))
    (told_only (Unit {0}) _ (NotOpen number) (ap (unless_open number) name)))

pub returns-in-Some : goal.returns-in-Some
returns-in-Some g c =
    let number = c.args.number in
    let b = c.self.inside in
    let name = ap (λ (os : List OpenSplit). split_name os number) (sym c.self.invariant.splits) ∙ sym c.name.ensures ∙ c.in-Some.is in
    rw (← c.self.view_is)
    (refused_later (end_refusal b.history.kept (cells_in b.journal) b.history.entries) _ (Ok tt) (passed {A = Unit {0}} _ tt (rw (← c.self.view_is) at c.in_ok-check_end.ensures))
    (done_only _ tt (ap (unless_open number) name)))
