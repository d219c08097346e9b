use Rattle.std.proofs.Common.{sym, ◌∙◌, ap, subst}
use Rattle.book_lock.specs.Pass.{Known}
use Rattle.sessions.specs.Rooms.{IsRoom}
use Rattle.sessions.proofs.Rooms.{room-seen}
use Rattle.sessions.proofs.store.Store.room.Goals as goal

pub returns-clause-room : goal.returns-clause-room
returns-clause-room g c =
    let was = c.take-book.ensures in
    let back = c.put_back.new.pass in
    subst (IsRoom back.origin back.seen) (sym c.room-room.ensures.room)
    (room-seen g.D.LogDisk.drive g.I.Index.WIDTH c.take-book.result c.room-room.ensures.book back.origin back.seen
    (was.origin ∙ sym (ap (λ (k : Known). k.origin) c.put_back.ensures ∙ ap (λ (k : Known). k.origin) was.took_is))
    (was.entries ∙ sym (ap (λ (k : Known). k.seen) c.put_back.ensures)))
