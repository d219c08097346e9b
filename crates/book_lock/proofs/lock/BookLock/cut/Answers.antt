use Rattle.std.proofs.Common.{◌<◌, ap, sym, ◌∙◌, subst, arith}
use Rattle.book_lock.specs.Pass.{Known}
use Rattle.book_lock.proofs.Keeps.{cut_seat}
use Rattle.book_lock.proofs.lock.BookLock.cut.Goals as goal

pub split_seat-requires : goal.split_seat-requires
split_seat-requires g c =
    let words = c.self.invariant.0 in
    let view = c.pass.view_is in (
      ap (λ (k : Known). k.lock) view ∙ (c.requires.lock ∙ sym c.self.view_is),
      omega arith,
      cut_seat g.V.Held.entries g.V.Held.origin _ g.J.Sharing.parts _ _ c.requires.parts.0 (subst (λ (k : Known). g.J.Sharing.parts < k.parts) (sym view) c.requires.parts.1),
    )
