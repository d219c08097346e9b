use Rattle.std.proofs.Common.{◌≡◌, sym, ◌∙◌, ap, subst}
use Rattle.std.specs.Prelude.{IfOk}
use Rattle.plain_list.specs.World.{World}
use Rattle.book_lock.specs.Pass.{Known}
use Rattle.sessions.proofs.Contents.{world-seen}
use Rattle.sessions.proofs.store.Store.world.Goals as goal

pub returns-clause-world : goal.returns-clause-world
returns-clause-world g c =
    let was = c.take-book.ensures in
    subst (λ (world : World). IfOk c.world-world.result (λ w. w ≡ world))
    (world-seen g.D.LogDisk.drive c.take-book.result _ _
    (was.origin ∙ sym (ap (λ (k : Known). k.origin) c.put_back.ensures ∙ ap (λ (k : Known). k.origin) was.took_is))
    (was.entries ∙ sym (ap (λ (k : Known). k.seen) c.put_back.ensures)))
    c.world-world.ensures.world
