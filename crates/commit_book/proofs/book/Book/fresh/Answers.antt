use Rattle.std.proofs.Common.{[], refl, sym, ap, ◌∙◌, subst, arith}
use Rattle.plain_list.specs.State.{State, ComesBySplits}
use Rattle.plain_list.proofs.BySplits.{come-first}
use Rattle.commit_book.specs.Events.{Events}
use Rattle.commit_book.proofs.EarlyReturns.{never_ok}
use Rattle.commit_book.proofs.FirstBooks.{inside-first}
use Rattle.commit_book.proofs.book.Book.fresh.Goals as goal

pub invariant_of-result : goal.invariant_of-result
invariant_of-result g c =
    let same = c.of.ensures in
    inside-first g.D.LogDisk.drive g.I.Index.WIDTH c.of.result _
    (record {
      rests = ap (λ (s : State). s.splits) same;
      begun = omega (arith, ap (λ (s : State). s.begun) same);
      comes = subst (ComesBySplits g.I.Index.WIDTH) (sym (ap (λ (s : State). s.leaves) same ∙ c.in_ok-table.ensures.leaves)) (come-first g.I.Index.WIDTH);
    })
    (ap (λ (v : Events). v.entries) c.empty.ensures) (sym (ap (λ (s : State). s.world) same)) (sym (ap (λ (s : State). s.leaves) same))
    (c.after.ensures ∙ (λ i. record { splits = []; begun = sym (ap (λ (s : State). s.begun) same) i; room = 0 }))
    (rw c.none.ensures refl)

pub returns-in_err-table : goal.returns-in_err-table
returns-in_err-table g c = never_ok c.from_residual.result _ c.from_residual.ensures.0
