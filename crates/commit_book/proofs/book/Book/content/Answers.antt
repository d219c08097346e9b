use Rattle.std.proofs.Common.{sym, ◌∙◌, subst}
use Rattle.plain_list.specs.State.{ComesBySplits}
use Rattle.plain_list.proofs.BySplits.{come-after}
use Rattle.plain_list.proofs.Histories.{state_after-world}
use Rattle.commit_book.proofs.book.Book.content.Goals as goal

pub returns-clause-world : goal.returns-clause-world
returns-clause-world g c =
    rw (← c.self.view_is) (c.in_ok-world.ensures ∙ c.self.invariant.world ∙ state_after-world g.I.Index.WIDTH c.self.inside.opening c.self.inside.history.entries)

pub returns-clause-comes : goal.returns-clause-comes
returns-clause-comes g c =
    let w = g.I.Index.WIDTH in
    subst (ComesBySplits w) (sym (c.from_vec-leaves.ensures ∙ c.in_ok-leaf_names.ensures ∙ c.self.invariant.names))
    (come-after w c.self.inside.opening c.self.inside.history.entries c.self.invariant.opening.comes)
