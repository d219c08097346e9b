use Rattle.std.proofs.Common.{◌+◌, ◌<◌, ◌^◌, length, ap, sym, ◌∙◌, subst, arith}
use Rattle.plain_list.specs.declared.entries.Entry.{Entry}
use Rattle.book_lock.specs.Ends.{MayNote}
use Rattle.book_lock.specs.Pass.{Known}
use Rattle.book_lock.proofs.Keeps.{note_entry}
use Rattle.book_lock.proofs.lock.BookLock.add.Goals as goal

pub fetch_add-requires : goal.fetch_add-requires
fetch_add-requires g c =
    let view = c.pass.view_is in
    let words = c.self.invariant.0 in
    let e : Entry = g.J.Noting.entry in (
      ap (λ (k : Known). k.lock) view ∙ (c.requires.lock ∙ sym c.self.view_is),
      omega arith,
      note_entry g.V.Held.entries g.V.Held.origin _ _ _ c.pass.inside.seat.me e
          (ap (λ (k : Known). k.holds) view ∙ c.requires.on)
          c.pass.invariant.0
          (subst (λ (k : Known). length k.seen + 1 < 2 ^ 64) (sym view) c.requires.room)
          (subst (λ (k : Known). MayNote k.seen k.own e) (sym view) c.requires.ends),
    )
