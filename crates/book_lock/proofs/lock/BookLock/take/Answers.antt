use Rattle.std.proofs.Common.{List, ℕ, ◌≡◌, ◌<◌, false, ap, sym, ◌∙◌, subst, arith}
use Rattle.std.specs.Prelude.{Some, ◌∷◌}
use Rattle.atomic_table.specs.Table.{rest}
use Rattle.plain_list.specs.declared.entries.Entry.{Entry}
use Rattle.book_lock.specs.Ends.{OwnsEnds}
use Rattle.book_lock.specs.Pass.{Known}
use Rattle.book_lock.specs.Steps.{Sat}
use Rattle.book_lock.proofs.Keeps.{take_lock, compare_lists}
use Rattle.book_lock.proofs.Carrying.{carries_none}
use Rattle.book_lock.proofs.lock.BookLock.take.Goals as goal

pub compare_exchange-requires : goal.compare_exchange-requires
compare_exchange-requires g c =
    let a = c.loop.invariant in
    let view = c.pass.view_is in
    let inv = c.pass.invariant in
    let words = c.self.invariant.0 in
    let off : c.pass.inside.seat.me.0.holds ≡ false = ap (λ (k : Known). k.holds) view ∙ c.requires.off in (
      a.0 ∙ (ap (λ (k : Known). k.lock) view ∙ (c.requires.lock ∙ sym c.self.view_is)),
      omega arith,
      take_lock g.V.Held.entries g.V.Held.origin _ _ _ c.loop.seat.me
          (ap (λ (m : Sat g.row.V.Denot). m.1) a.1 ∙ carries_none _ _ off inv.2)
          (ap (λ (m : Sat g.row.V.Denot). m.0.holds) a.1 ∙ off)
          (subst (λ (m : Sat g.row.V.Denot). 0 < m.0.parts) (sym a.1) inv.0),
    )

pub exchange-slot-requires : goal.exchange-slot-requires
exchange-slot-requires g c =
    let t = c.compare_exchange.ensures.2.0 c.if-compare_exchange-eq0.true in
    let slots = ap (λ (m : Sat g.row.V.Denot). m.1) t.1 in
    let a = c.loop.invariant in (
      c.compare_exchange.ensures.0 ∙ (a.0 ∙ (ap (λ (k : Known). k.lock) c.pass.view_is ∙ (c.requires.lock ∙ sym c.self.view_is))),
      (Some t.0, slots ∙ (λ i. (0, Some t.0) ∷ rest (sym slots i))),
    )

pub load-requires : goal.load-requires
load-requires g c =
    let a = c.loop.invariant in
    let words = c.self.invariant.0 in (
      c.exchange-slot.ensures.0 ∙ (c.compare_exchange.ensures.0 ∙ (a.0 ∙ (ap (λ (k : Known). k.lock) c.pass.view_is ∙ (c.requires.lock ∙ sym c.self.view_is)))),
      omega arith,
      compare_lists g.V.Held.entries g.V.Held.origin _ _ _ _,
    )

pub returns-in-Some-slot-clause-ends : goal.returns-in-Some-slot-clause-ends
returns-in-Some-slot-clause-ends g c =
    let t = c.compare_exchange.ensures.2.0 c.if-compare_exchange-eq0.true in
    let seen = ap (λ (m : Sat g.row.V.Denot). m.0.seen) c.load.ensures.2.0 ∙ (ap (λ (m : Sat g.row.V.Denot). m.0.seen) c.exchange-slot.ensures.3 ∙ ap (λ (m : Sat g.row.V.Denot). m.0.seen) t.1) in
    let own = ap (λ (m : Sat g.row.V.Denot). m.0.own) c.load.ensures.2.0 ∙ (ap (λ (m : Sat g.row.V.Denot). m.0.own) c.exchange-slot.ensures.3 ∙ ap (λ (m : Sat g.row.V.Denot). m.0.own) t.1) in
    subst (λ (z : List Entry × List ℕ). OwnsEnds z.0 z.1) (λ i. (sym seen i, sym own i)) t.4

pub returns-in-Some-slot-clause-alone : goal.returns-in-Some-slot-clause-alone
returns-in-Some-slot-clause-alone g c all =
    let t = c.compare_exchange.ensures.2.0 c.if-compare_exchange-eq0.true in
    let a = c.loop.invariant in
    let view = c.pass.view_is in
    let seen = ap (λ (m : Sat g.row.V.Denot). m.0.seen) c.load.ensures.2.0 ∙ (ap (λ (m : Sat g.row.V.Denot). m.0.seen) c.exchange-slot.ensures.3 ∙ ap (λ (m : Sat g.row.V.Denot). m.0.seen) t.1) in
    seen ∙ (t.7 (ap (λ (m : Sat g.row.V.Denot). m.0.parts) a.1 ∙ (ap (λ (k : Known). k.parts) view ∙ all)) ∙ (ap (λ (m : Sat g.row.V.Denot). m.0.seen) a.1 ∙ ap (λ (k : Known). k.seen) view))
