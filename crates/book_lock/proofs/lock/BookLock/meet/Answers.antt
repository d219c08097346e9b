use Rattle.std.proofs.Common.{ap, sym, ◌∙◌, arith}
use Rattle.book_lock.specs.Pass.{Known}
use Rattle.book_lock.proofs.Keeps.{copy_seat}
use Rattle.book_lock.proofs.lock.BookLock.meet.Goals as goal

pub split_seat-note-requires : goal.split_seat-note-requires
split_seat-note-requires g c =
    let words = c.self.invariant.0 in
    let view = c.first.view_is in (
      ap (λ (k : Known). k.lock) view ∙ (c.requires.lock.0 ∙ sym c.self.view_is),
      omega arith,
      copy_seat g.V.Held.entries g.V.Held.origin _ _ _ c.first.invariant.0,
    )
