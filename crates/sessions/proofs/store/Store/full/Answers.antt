use Rattle.std.proofs.Common.{sym, ap, ◌∙◌}
use Rattle.plain_list.specs.State.{state_after}
use Rattle.plain_list.specs.Size.{full_leaf}
use Rattle.book_lock.specs.Pass.{Known}
use Rattle.sessions.specs.Shared.{start_of}
use Rattle.sessions.proofs.Origins.{start-of-origin}
use Rattle.sessions.proofs.store.Store.full.Goals as goal

pub returns-clause-full : goal.returns-clause-full
returns-clause-full g c =
    let w = g.I.Index.WIDTH in
    let b = c.take-book.result in
    let back = c.put_back.new.pass in
    let was = c.take-book.ensures in
    let origin = was.origin ∙ sym (ap (λ (k : Known). k.origin) c.put_back.ensures ∙ ap (λ (k : Known). k.origin) was.took_is) in
    let entries = was.entries ∙ sym (ap (λ (k : Known). k.seen) c.put_back.ensures) in
    let start = sym (start-of-origin g.D.LogDisk.drive w b c.full-full.ensures.book.opening) ∙ ap start_of origin in
    c.full-full.ensures.full ∙ (λ i. full_leaf w (origin i).bucket (state_after w (start i) (entries i)))
