use Rattle.std.proofs.Common.{◌≡◌, ◌∷◌, true, ap, sym, ◌∙◌, arith}
use Rattle.std.specs.Prelude.{Some}
use Rattle.atomic_table.specs.Table.{rest}
use Rattle.book_lock.specs.Pass.{Known}
use Rattle.book_lock.proofs.Keeps.{release_lock}
use Rattle.book_lock.proofs.Carrying.{carries_slot}
use Rattle.book_lock.proofs.lock.BookLock.put_back.Goals as goal

pub store-requires : goal.store-requires
store-requires g c =
    let e = c.exchange-empty.ensures in
    let view = c.pass.view_is in
    let inv = c.pass.invariant in
    let words = c.self.invariant.0 in
    let on : c.pass.inside.seat.me.0.holds ≡ true = ap (λ (k : Known). k.holds) view ∙ c.requires.on in
    let slots = carries_slot _ _ on inv.2 in (
      e.0 ∙ (ap (λ (k : Known). k.lock) view ∙ (c.requires.lock ∙ sym c.self.view_is)),
      omega arith,
      release_lock g.V.Held.entries g.V.Held.origin _ _ _ c.exchange-empty.new.seat.me c.pass.inside.seat.me.0 c.args.value
          (e.3 ∙ (λ i. (c.pass.inside.seat.me.0, (0, Some c.args.value) ∷ rest (slots i))))
          on
          inv.0
          (c.requires.value.0 ∙ sym (ap (λ (k : Known). k.seen) view))
          (c.requires.value.1 ∙ sym (ap (λ (k : Known). k.origin) view))
          c.self.invariant.1,
    )
