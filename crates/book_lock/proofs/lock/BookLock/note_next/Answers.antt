use Rattle.std.proofs.Common.{◌≡◌, ◌+◌, ◌<◌, ◌^◌, List, [], ◌∷◌, ◌++◌, length, take, ap, sym, ◌∙◌, subst, arith, length-append}
use Rattle.std.proofs.Math.Seq.{take-append-add}
use Rattle.plain_list.specs.declared.entries.Entry.{Entry}
use Rattle.book_lock.specs.Ends.{MayNote, next_of}
use Rattle.book_lock.proofs.Histories.{next_of-after}
use Rattle.book_lock.proofs.lock.BookLock.note_next.Goals as goal

pub add-requires-clause-room : goal.add-requires-clause-room
add-requires-clause-room g c =
    let (e, rest, is, may) = c.requires.entry in
    let long = ap length is ∙ length-append c.args.pass.now.seen (e ∷ rest) in
    omega arith

pub add-requires-clause-ends : goal.add-requires-clause-ends
add-requires-clause-ends g c =
    let (e, rest, is, may) = c.requires.entry in
    let old = c.args.pass.now in
    let same : next_of old.seen (g.V.Held.entries c.args.value.now) ≡ e = ap (next_of old.seen) is ∙ next_of-after old.seen e rest in
    subst (λ (x : Entry). MayNote old.seen old.own x) (sym same) may

pub returns : goal.returns
returns g c =
    let (e, rest, is, may) = c.requires.entry in
    let old = c.args.pass.now in
    let same : next_of old.seen (g.V.Held.entries c.args.value.now) ≡ e = ap (next_of old.seen) is ∙ next_of-after old.seen e rest in
    let seen : old.seen ++ next_of old.seen (g.V.Held.entries c.args.value.now) ∷ [] ≡ take (length old.seen + 1) (g.V.Held.entries c.args.value.now) =
    ap (λ (x : Entry). old.seen ++ x ∷ []) same ∙ sym (ap (take (length old.seen + 1)) is ∙ take-append-add old.seen (e ∷ rest) 1) in
    c.add.ensures ∙ (λ i. record { lock = old.lock; seen = seen i; own = old.own ++ length old.seen ∷ []; origin = old.origin; parts = old.parts; holds = old.holds })
