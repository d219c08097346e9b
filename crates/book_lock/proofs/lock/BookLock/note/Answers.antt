use Rattle.std.proofs.Common.{◌≡◌, ◌+◌, List, [], ◌∷◌, ◌++◌, length, take, ap, sym, ◌∙◌}
use Rattle.std.proofs.Math.Seq.{take-append-add}
use Rattle.book_lock.proofs.lock.BookLock.note.Goals as goal

pub note_next-requires-clause-entry : goal.note_next-requires-clause-entry
note_next-requires-clause-entry g c = (c.requires.entry.0, [], c.requires.entry.1, c.requires.entry.2)

pub returns : goal.returns
returns g c =
    let old = c.args.pass.now in
    let (e, is, may) = c.requires.entry in
    let seen : take (length old.seen + 1) (g.V.Held.entries c.args.value.now) ≡ g.V.Held.entries c.args.value.now =
    ap (take (length old.seen + 1)) is ∙ take-append-add old.seen (e ∷ []) 1 ∙ sym is in
    c.note_next.ensures ∙ (λ i. record { lock = old.lock; seen = seen i; own = old.own ++ length old.seen ∷ []; origin = old.origin; parts = old.parts; holds = old.holds })
